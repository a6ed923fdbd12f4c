-- no input of receptions and evidence lacks the text of its answers
use Rattle.std.proofs.Common.{◌≡◌, ℕ, suc, ◌<◌, ◌==◌, ◌&&◌, ◌||◌, Bool, true, false, if◌then◌else◌, List, [], ◌∷◌, ◌++◌, map, flat_map, inl, inr, refl, sym, ◌∙◌, ap, subst, append_assoc, arith}
use Rattle.std.specs.List.{list_any, list_all, AllByRecursion, All}
use Rattle.std.proofs.lemmas.Bool.{cases_lt, or_cases, and_parts, eqb-true}
use Rattle.slot_evidence.specs.Facts.{Facts, facts_of}
use Rattle.slot_evidence.proofs.PublicLaws.{fact_small}
use Rattle.slot_join.specs.declared.joined.Joined.{Joined}
use Rattle.slot_join.specs.Answer.{IsAnswer, is_reported}
use Rattle.line_engine.specs.Lines.{Lines}
use Rattle.line_engine.specs.Faults.{IsFaultless}
use Rattle.line_engine.specs.Determined.{IsNeverStuck}
use Rattle.line_engine.proofs.PublicLaws.{sound_line_of}
use Rattle.input_lines.specs.ReceiverLine.{ReceiverLine, nothing, reception, evidence, IsPair, IsLine}
use Rattle.input_lines.specs.Lines.{facts_of_pairs}
use Rattle.input_lines.proofs.PublicLaws.{line_there}
use Rattle.join_groups.specs.Groups.{AreLines, is_named, facts_of_line, group_facts, AreAbove, IsRising, is_among, AreGroups}
use Rattle.join_groups.specs.Output.{GroupLine, Telling, TellsAnswer, IsGroupsText}
use Rattle.call_texts.specs.Texts.{answer_line}
use Rattle.join_groups.specs.Meanings.{groups_meaning}

-- it can't be that there is none
abbrev pub IsThere : Type 0 → Type 0
IsThere A = (A → ⊥) → ⊥

-- ---- the groups that lines name

or_swap : (a b c : Bool) → (a || (b || c)) ≡ (b || (a || c))
or_swap true true c = refl
or_swap true false c = refl
or_swap false true c = refl
or_swap false false c = refl

or_twice : (a b c : Bool) → a ≡ b → (a || c) ≡ (b || (a || c))
or_twice true true c e = refl
or_twice false false c e = refl
or_twice true false c e = absurd (cc)
or_twice false true c e = absurd (cc)

above_more : (m n : ℕ) (numbers : List ℕ) → m < n → AreAbove n numbers → AreAbove m numbers
above_more m n [] less above = tt
above_more m n (k ∷ numbers) less above = (let more = above.0 in omega (arith, less, more), above_more m n numbers less above.1)

-- rising numbers with one more
pub record WithNumber (k : ℕ) (numbers : List ℕ) : Type 0 where
  pub new : List ℕ
  pub rising : IsRising new
  pub among : (j : ℕ) → is_among new j ≡ ((k == j) || is_among numbers j)
  pub above : (n : ℕ) → n < k → AreAbove n numbers → AreAbove n new

with_number : (k : ℕ) (numbers : List ℕ) → IsRising numbers → WithNumber k numbers
with_number k [] rising = record { new = k ∷ []; rising = (tt, tt); among = λ j. refl; above = λ n less above. (less, tt) }
with_number k (n ∷ numbers) rising =
    elim (cases_lt k n) [
      | inl less ↦ record {
        new = k ∷ n ∷ numbers;
        rising = ((less, above_more k n numbers less rising.0), rising);
        among = λ j. refl;
        above = λ m below above. (below, above);
      }
      | inr not_less ↦ (elim (cases_lt n k) [
        | inl more ↦
            let rest = with_number k numbers rising.1 in
            record {
              new = n ∷ rest.new;
              rising = (rest.above n more rising.0, rest.rising);
              among = λ j. ap (λ (b : Bool). (n == j) || b) (rest.among j) ∙ or_swap (n == j) (k == j) (is_among numbers j);
              above = λ m below above. (above.0, rest.above m below above.1);
            }
        | inr not_more ↦
            let same : n ≡ k = omega (arith, not_less, not_more) in
            record {
              new = n ∷ numbers;
              rising = rising;
              among = λ j. or_twice (n == j) (k == j) (is_among numbers j) (ap (λ (i : ℕ). i == j) same);
              above = λ m below above. above;
            }
      ])
    ]

-- lines with one more that names this group
with_group : (line : ReceiverLine) (said : List ReceiverLine) (group : ℕ) (groups : List ℕ) → ((j : ℕ) → is_named (line ∷ said) j ≡ ((group == j) || is_named said j)) → AreGroups said groups
    → (new : List ℕ) × AreGroups (line ∷ said) new
with_group line said group groups names are =
    let w = with_number group groups are.rising in
    (w.new, record { rising = w.rising; named = λ j. w.among j ∙ ap (λ (b : Bool). (group == j) || b) (are.named j) ∙ sym (names j) })

pub groups_of : (said : List ReceiverLine) → (groups : List ℕ) × AreGroups said groups
unfolding is_named
groups_of [] = ([], record { rising = tt; named = λ k. refl })
groups_of (nothing ∷ said) = let g = groups_of said in (g.0, record { rising = g.1.rising; named = λ k. g.1.named k })
groups_of (reception group e ∷ said) = let g = groups_of said in with_group (reception group e) said group g.0 (λ j. refl) g.1
groups_of (evidence group pairs ∷ said) = let g = groups_of said in with_group (evidence group pairs) said group g.0 (λ j. refl) g.1

-- ---- facts are symbols of characters at places of a sheet

pair_small : (pairs : List (ℕ × ℕ)) (p v : ℕ) → All IsPair pairs → facts_of_pairs pairs p v ≡ true → (p < 64) × (v < 128)
pair_small [] p v all h = absurd (cc)
pair_small (x ∷ pairs) p v all h =
    elim (or_cases (p == x.0 && v == x.1) (facts_of_pairs pairs p v) h) [
      | inl here ↦
          let is : IsPair x = all 0 x (omega arith) in
          let both = and_parts (p == x.0) (v == x.1) here in
          let place = eqb-true p x.0 both.0 in
          let symbol = eqb-true v x.1 both.1 in
          let few = is.0 in
          let small = is.1 in
          (omega (arith, place, few), omega (arith, symbol, small))
      | inr more ↦ pair_small pairs p v (λ k d inside. all (suc k) d (omega (arith, inside))) more
    ]

line_small : (k : ℕ) (line : ReceiverLine) (text : List ℕ) (p v : ℕ) → IsLine line text → facts_of_line k line p v ≡ true → (p < 64) × (v < 128)
line_small k nothing text p v is h = absurd (cc)
line_small k (reception group e) text p v is h = fact_small e p v (and_parts (group == k) (facts_of e p v) h).1
line_small k (evidence group pairs) text p v is h = pair_small pairs p v is.1.1.0 (and_parts (group == k) (facts_of_pairs pairs p v) h).1

-- each is what some line says
abbrev pub AreSome : List ReceiverLine → Type 0
AreSome said = AllByRecursion (λ line. (text : List ℕ) × IsLine line text) said

pub some_lines : (said : List ReceiverLine) (lines : Lines) → AreLines said lines → AreSome said
some_lines [] lines are = tt
some_lines (line ∷ said) [] are = absurd are
some_lines (line ∷ said) (text ∷ lines) are = ((text, are.0), some_lines said lines are.1)

pub group_within : (said : List ReceiverLine) (k p v : ℕ) → AreSome said → group_facts said k p v ≡ true → (p < 64) × (v < 128)
unfolding group_facts
group_within [] k p v are h = absurd (cc)
group_within (line ∷ said) k p v are h =
    elim (or_cases (facts_of_line k line p v) (list_any (λ l. facts_of_line k l p v) said) h) [
      | inl here ↦ line_small k line are.0.0 p v are.0.1 here
      | inr more ↦ group_within said k p v are.1 more
    ]

pub group_small : (said : List ReceiverLine) (k p v : ℕ) → AreSome said → group_facts said k p v ≡ true → v < 128
group_small said k p v are h = (group_within said k p v are h).1

-- ---- what is told of each group

-- no facts lack an answer
abbrev pub AnswerLaw : Type 0
AnswerLaw = (F : Facts) → ((p v : ℕ) → F p v ≡ true → v < 128) → ((answer : Joined) → IsAnswer F answer → ⊥) → ⊥

module _ (law : AnswerLaw) (said : List ReceiverLine) (are : AreSome said) where
  record ToldOf (groups : List ℕ) : Type 0 where
    all : List GroupLine
    groups_are : map (λ told. told.group) all ≡ groups
    each : AllByRecursion (λ told. TellsAnswer (group_facts said told.group) told) all

  told_there : (groups : List ℕ) → IsThere (ToldOf groups)
  told_there [] k = k (record { all = []; groups_are = refl; each = tt })
  told_there (group ∷ groups) k =
      law (group_facts said group) (λ p v. group_small said group p v are) (λ answer is.
      told_there groups (λ rest. k (record {
        all = record { group = group; line = answer_line group answer; is_well = is_reported answer } ∷ rest.all;
        groups_are = ap (λ (l : List ℕ). group ∷ l) rest.groups_are;
        each = (record { answer = answer; is_answer = is; line_is = refl; well_is = refl }, rest.each);
      })))

  pub text_there : IsThere ((text : List ℕ) × (status : ℕ) × IsGroupsText TellsAnswer said text status)
  text_there k =
      let g = groups_of said in
      told_there g.0 (λ told. k (
        flat_map (λ (one : GroupLine). one.line) told.all,
        (if list_all (λ (one : GroupLine). one.is_well) told.all then 0 else 1),
        record {
          all = told.all;
          groups = subst (AreGroups said) (sym told.groups_are) g.1;
          each = told.each;
          text_is = refl;
          status_is = refl;
        },
      ))

-- ---- lines without a fault say something

pub said_there : (tells : Telling) (earlier lines : Lines) → IsFaultless (groups_meaning tells) (earlier ++ lines) → IsThere ((said : List ReceiverLine) × AreLines said lines)
said_there tells earlier [] none k = k ([], tt)
said_there tells earlier (line ∷ lines) none k =
    line_there IsLine line (sound_line_of (groups_meaning tells) (earlier ++ line ∷ lines) earlier line lines none refl) (λ w is.
    said_there tells (earlier ++ line ∷ []) lines (subst (IsFaultless (groups_meaning tells)) (sym (append_assoc earlier (line ∷ []) lines)) none) (λ rest.
    k (w ∷ rest.0, (is, rest.1))))

pub join_never_stuck : AnswerLaw → IsNeverStuck (groups_meaning TellsAnswer)
join_never_stuck law = record {
  gives = λ lines none k. k [] refl;
  ends = λ lines none k.
      said_there TellsAnswer [] lines none (λ said.
      text_there law said.0 (some_lines said.0 lines said.1) (λ told.
      k told.0 told.1 (record { said = said.0; are_lines = said.1; is_text = told.2 })));
}
