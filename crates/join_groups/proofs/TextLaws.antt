-- Texts of groups depend on the set of lines alone, and evidence stands for the lines of its group.
use Rattle.std.proofs.Common.{◌≡◌, ℕ, suc, Bool, true, false, ◌&&◌, ◌||◌, ◌==◌, List, [], ◌∷◌, ◌++◌, refl, sym, ap, subst, ◌∙◌, inl, inr, arith}
use Rattle.std.proofs.Math.Path.{fun_ext}
use Rattle.std.specs.Prelude.{◌↔◌, Contains}
use Rattle.std.specs.List.{list_any, AllByRecursion}
use Rattle.std.proofs.lemmas.Bool.{or_cases, eqb-true}
use Rattle.std.proofs.lemmas.List.Folds.{list_any-append, list_any_at}
use Rattle.std.proofs.lemmas.Bool.Decides.{same_from_decides}
use Rattle.slot_evidence.specs.declared.places.Seen.{Seen}
use Rattle.slot_evidence.specs.Facts.{Facts, Symbols}
use Rattle.slot_evidence.specs.Seen.{IsSeen}
use Rattle.slot_evidence.specs.Sheet.{IsSheet, IsEnds, seen_at, facts_in}
use Rattle.slot_evidence.specs.Alike.{AreAlike}
use Rattle.slot_evidence.proofs.PublicLaws.{same_alike, flip_alike}
use Rattle.slot_join.specs.declared.joined.Joined.{Joined}
use Rattle.slot_join.specs.Answer.{IsAnswer}
use Rattle.input_lines.specs.ReceiverLine.{ReceiverLine, evidence}
use Rattle.input_lines.specs.Lines.{facts_of_pairs}
use Rattle.input_lines.specs.Evidence.{pairs_below}
use Rattle.join_groups.specs.Groups.{names, is_named, facts_of_line, group_facts}
use Rattle.join_groups.specs.Output.{GroupLine, Telling, TellsAnswer, TellsEvidence, IsGroupsText}
use Rattle.join_groups.specs.Laws.{AreOfGroup}
use Rattle.join_groups.proofs.Naming.{unnamed_facts}

-- the laws of the crates below that these rest on
pub record Laws : Type 0 where
  pub answers : (F G : Facts) (answer : Joined) → ((p : ℕ) → AreAlike (F p) (G p)) → IsAnswer F answer → IsAnswer G answer
  pub kept : (S T : Symbols) (x : Seen) → AreAlike S T → IsSeen S x → IsSeen T x
  pub itself : (S : Symbols) → AreAlike S S
  pub unions : (S T U V : Symbols) → AreAlike S T → AreAlike U V → AreAlike (λ v. S v || U v) (λ v. T v || V v)
  pub sheet : (F : Facts) (sheet : List Seen) (p : ℕ) → IsEnds F sheet → AreAlike (F p) (facts_in sheet p)
  pub pairs : (sheet : List Seen) (place symbol : ℕ) → IsSheet sheet → facts_of_pairs (pairs_below 64 sheet) place symbol ≡ facts_in sheet place symbol

-- what is told of facts is told of those that are alike
abbrev pub GoesOver : Telling → Type 0
GoesOver tells = (F G : Facts) (told : GroupLine) → ((p : ℕ) → AreAlike (F p) (G p)) → tells F told → tells G told

-- facts with the same ends have the same answer
pub answers_go_over : Laws → GoesOver TellsAnswer
answers_go_over laws F G told alike t = record { answer = t.answer; is_answer = laws.answers F G t.answer alike t.is_answer; line_is = t.line_is; well_is = t.well_is }

-- facts with the same ends have the same evidence
pub evidence_goes_over : Laws → GoesOver TellsEvidence
evidence_goes_over laws F G told alike t = record {
  sheet = t.sheet;
  are_ends = record { places = t.are_ends.places; each = λ p. laws.kept (F p) (G p) (seen_at t.sheet p) (alike p) (t.are_ends.each p) };
  line_is = t.line_is;
  well_is = t.well_is;
}

all_over : (tells : Telling) → GoesOver tells → (said other : List ReceiverLine) → ((k p : ℕ) → AreAlike (group_facts said k p) (group_facts other k p)) → (all : List GroupLine)
    → AllByRecursion (λ told. tells (group_facts said told.group) told) all → AllByRecursion (λ told. tells (group_facts other told.group) told) all
all_over tells over said other alike [] each = tt
all_over tells over said other alike (told ∷ all) each =
    (over (group_facts said told.group) (group_facts other told.group) told (alike told.group) each.0, all_over tells over said other alike all each.1)

-- lines that name the same groups, with facts that are alike, have one text
pub text_over : (tells : Telling) → GoesOver tells → (said other : List ReceiverLine) (text : List ℕ) (status : ℕ) → ((k : ℕ) → is_named said k ≡ is_named other k)
    → ((k p : ℕ) → AreAlike (group_facts said k p) (group_facts other k p)) → IsGroupsText tells said text status → IsGroupsText tells other text status
text_over tells over said other text status same alike t = record {
  all = t.all;
  groups = record { rising = t.groups.rising; named = λ k. t.groups.named k ∙ same k };
  each = all_over tells over said other alike t.all t.each;
  text_is = t.text_is;
  status_is = t.status_is;
}

-- a test of lines that have the same members
any_has : (f : ReceiverLine → Bool) (d : List ReceiverLine) → list_any f d ≡ true → (x : ReceiverLine) × Contains d x × (f x ≡ true)
any_has f [] h = absurd (cc)
any_has f (y ∷ d) h =
    elim (or_cases (f y) (list_any f d) h) [
      | inl here ↦ (y, (0, omega arith, refl), here)
      | inr more ↦ (let x = any_has f d more in (x.0, (suc x.1.0, omega (arith, x.1.1), x.1.2), x.2))
    ]

has_any : (f : ReceiverLine → Bool) (d : List ReceiverLine) (x : ReceiverLine) → Contains d x → f x ≡ true → list_any f d ≡ true
has_any f d x c h = list_any_at f d c.0 x c.1 (ap f c.2 ∙ h)

same_any : (f : ReceiverLine → Bool) (d e : List ReceiverLine) → ((x : ReceiverLine) → Contains d x ↔ Contains e x) → list_any f d ≡ list_any f e
same_any f d e same =
    same_from_decides {P = list_any f e ≡ true} (list_any f d) (list_any f e)
    (λ h. let x = any_has f d h in has_any f e x.0 ((same x.0).0 x.1) x.2, λ h. let x = any_has f e h in has_any f d x.0 ((same x.0).1 x.1) x.2)
    (λ h. h, λ h. h)

-- neither order nor repetition of lines matters
pub order_over : Laws → (tells : Telling) → GoesOver tells → (said other : List ReceiverLine) (text : List ℕ) (status : ℕ) → ((line : ReceiverLine) → Contains said line ↔ Contains other line)
    → IsGroupsText tells said text status → IsGroupsText tells other text status
unfolding is_named group_facts
order_over laws tells over said other text status same t =
    text_over tells over said other text status (λ k. same_any (names k) said other same)
    (λ k p. same_alike (group_facts said k p) (group_facts other k p) (λ v. same_any (λ line. facts_of_line k line p v) said other same)) t

-- evidence stands for the lines of its group
module _ (laws : Laws) (heard rest : List ReceiverLine) (k : ℕ) (sheet : List Seen) (lawful : IsSheet sheet) (of : AreOfGroup k heard) (ends : IsEnds (group_facts heard k) sheet) where
  line : ReceiverLine
  line = evidence k (pairs_below 64 sheet)

  pub names_same : (j : ℕ) → is_named (heard ++ rest) j ≡ is_named (evidence k (pairs_below 64 sheet) ∷ rest) j
  unfolding is_named
  names_same j = list_any-append (names j) heard rest ∙ ap (λ (b : Bool). b || list_any (names j) rest) (of j)

  own_alike : (j p : ℕ) (t : Bool) → (k == j) ≡ t → AreAlike (group_facts heard j p) (λ v. t && facts_of_pairs (pairs_below 64 sheet) p v)
  own_alike j p true is =
      let same : facts_in sheet p ≡ facts_of_pairs (pairs_below 64 sheet) p = fun_ext (λ v. sym (laws.pairs sheet p v lawful)) in
      subst (λ (n : ℕ). AreAlike (group_facts heard n p) (facts_of_pairs (pairs_below 64 sheet) p)) (eqb-true k j is)
      (subst (λ (S : Symbols). AreAlike (group_facts heard k p) S) same (laws.sheet (group_facts heard k) sheet p ends))
  own_alike j p false is = same_alike (group_facts heard j p) (λ v. false) (λ v. unnamed_facts heard j p v (of j ∙ is))

  pub facts_alike : (j p : ℕ) → AreAlike (group_facts (heard ++ rest) j p) (group_facts (evidence k (pairs_below 64 sheet) ∷ rest) j p)
  unfolding group_facts
  facts_alike j p =
      let split : (λ (v : ℕ). list_any (λ l. facts_of_line j l p v) heard || list_any (λ l. facts_of_line j l p v) rest) ≡ group_facts (heard ++ rest) j p =
      fun_ext (λ v. sym (list_any-append (λ l. facts_of_line j l p v) heard rest)) in
      subst (λ (S : Symbols). AreAlike S (group_facts (evidence k (pairs_below 64 sheet) ∷ rest) j p)) split
      (laws.unions (group_facts heard j p) (λ v. (k == j) && facts_of_pairs (pairs_below 64 sheet) p v) (group_facts rest j p) (group_facts rest j p)
      (own_alike j p (k == j) refl) (laws.itself (group_facts rest j p)))

  pub evidence_over : (tells : Telling) → GoesOver tells → (text : List ℕ) (status : ℕ)
      → (IsGroupsText tells (heard ++ rest) text status ↔ IsGroupsText tells (evidence k (pairs_below 64 sheet) ∷ rest) text status)
  evidence_over tells over text status = (
    text_over tells over (heard ++ rest) (evidence k (pairs_below 64 sheet) ∷ rest) text status names_same facts_alike,
    text_over tells over (evidence k (pairs_below 64 sheet) ∷ rest) (heard ++ rest) text status (λ j. sym (names_same j))
        (λ j p. flip_alike (group_facts (heard ++ rest) j p) (group_facts (evidence k (pairs_below 64 sheet) ∷ rest) j p) (facts_alike j p)),
  )
