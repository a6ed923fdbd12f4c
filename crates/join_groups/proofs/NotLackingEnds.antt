-- no input of receptions and evidence lacks the text of its ends
use Rattle.std.proofs.Common.{◌≡◌, ℕ, zero, suc, ◌+◌, ◌-◌, ◌<◌, ◌≤◌, Bool, true, false, if◌then◌else◌, List, [], ◌∷◌, ◌++◌, length, map, flat_map, ◌⊎◌, inl, inr, refl, sym, ap, subst, arith}
use Rattle.std.specs.List.{list_all, AllByRecursion}
use Rattle.std.proofs.lemmas.Bool.{cases_lt}
use Rattle.line_grammar.specs.Bytes.{line_feed}
use Rattle.slot_evidence.specs.declared.places.Seen.{Seen}
use Rattle.slot_evidence.specs.declared.places.Seen.TheVariants as seen
use Rattle.slot_evidence.specs.Facts.{Facts, Symbols}
use Rattle.slot_evidence.specs.Seen.{IsSeen}
use Rattle.slot_evidence.specs.Sheet.{IsEnds, seen_at}
use Rattle.input_lines.specs.Evidence.{evidence_text}
use Rattle.line_engine.specs.Determined.{IsNeverStuck}
use Rattle.input_lines.specs.ReceiverLine.{ReceiverLine}
use Rattle.join_groups.specs.Groups.{group_facts, AreGroups}
use Rattle.join_groups.specs.Output.{GroupLine, TellsEvidence, IsGroupsText}
use Rattle.join_groups.specs.Meanings.{groups_meaning}
use Rattle.join_groups.proofs.NotLacking.{IsThere, AreSome, some_lines, group_within, groups_of, said_there}

either_way : (A : Type 0) → IsThere (A ⊎ (A → ⊥))
either_way A k = k (inr (λ a. k (inl a)))

-- of bounded numbers one is the greatest
module _ (P : ℕ → Type 0) (bound : ℕ) (within : (n : ℕ) → P n → n ≤ bound) where
  abbrev Greatest : Type 0
  Greatest = (n : ℕ) × P n × ((m : ℕ) → P m → m ≤ n)

  greatest_by : (d n : ℕ) → P n → bound ≤ n + d → IsThere Greatest
  greatest_by zero n q e k = k (n, q, λ m r. let few = within m r in omega (arith, few, e))
  greatest_by (suc d) n q e k =
      either_way ((m : ℕ) × P m × (n < m)) (λ c. elim c [
        | inl o ↦ greatest_by d o.0 o.1 (let more = o.2 in omega (arith, e, more)) k
        | inr none ↦ k (
          n,
          q,
          λ m r. elim (cases_lt n m) [
            | inl more ↦ absurd (none (m, r, more))
            | inr few ↦ few
          ],
        )
      ])

  greatest_there : (n : ℕ) → P n → IsThere Greatest
  greatest_there n q = greatest_by bound n q (omega arith)

-- ---- what a place showed

false_of : (b : Bool) → (b ≡ true → ⊥) → b ≡ false
false_of true h = absurd (h refl)
false_of false h = refl

module _ (S : Symbols) (small : (v : ℕ) → S v ≡ true → v < 128) where
  -- how far a symbol is below 128
  abbrev IsBelow : ℕ → Type 0
  IsBelow n = (v : ℕ) × (v + n ≡ 128) × (S v ≡ true)

  seen_by_ends : (g : ℕ) → S g ≡ true → ((m : ℕ) → S m ≡ true → m ≤ g) → (l : ℕ) → S l ≡ true → ((m : ℕ) → S m ≡ true → l ≤ m) → (x : Seen) × IsSeen S x
  seen_by_ends g has_g most l has_l least =
      elim (cases_lt l g) [
        | inl apart ↦ (seen.Differ l g, record { has_least = has_l; has_greatest = has_g; apart = apart; between = λ w h. (least w h, most w h) })
        | inr same ↦ (seen.One g, (has_g, λ w h. let a = least w h in let b = most w h in omega (arith, a, b, same)))
      ]

  far_below : (n m : ℕ) (least : IsBelow n) → ((k : ℕ) → IsBelow k → k ≤ n) → S m ≡ true → least.0 ≤ m
  far_below n m least most h =
      let few = small m h in
      let far = most (128 - m) (m, omega (arith, few), h) in
      let at = least.1 in
      omega (arith, few, far, at)

  below_bound : (n : ℕ) → IsBelow n → n ≤ 128
  below_bound n h = let at = h.1 in omega (arith, at)

  small_bound : (n : ℕ) → S n ≡ true → n ≤ 128
  small_bound n h = let few = small n h in omega (arith, few)

  some_seen : (v : ℕ) → S v ≡ true → IsThere ((x : Seen) × IsSeen S x)
  some_seen v h k =
      let few = small v h in
      greatest_there (λ (n : ℕ). S n ≡ true) 128 small_bound v h (λ g.
      greatest_there IsBelow 128 below_bound (128 - v) (v, omega (arith, few), h) (λ l.
      k (seen_by_ends g.0 g.1 g.2 l.1.0 l.1.2 (λ m has. far_below l.0 m l.1 l.2 has))))

  seen_there : IsThere ((x : Seen) × IsSeen S x)
  seen_there k =
      either_way ((v : ℕ) × (S v ≡ true)) (λ c. elim c [
        | inl some ↦ some_seen some.0 some.1 k
        | inr none ↦ k (seen.None, λ v. false_of (S v) (λ h. none (v, h)))
      ])

-- ---- a sheet

past_end : (sheet : List Seen) (p : ℕ) → length sheet ≤ p → seen_at sheet p ≡ seen.None
past_end [] p h = refl
past_end (x ∷ sheet) zero h = absurd (omega (arith, h))
past_end (x ∷ sheet) (suc p) h = past_end sheet p (omega (arith, h))

module _ (F : Facts) (within : (p v : ℕ) → F p v ≡ true → (p < 64) × (v < 128)) where
  record SheetOf (from n : ℕ) : Type 0 where
    sheet : List Seen
    places : length sheet ≡ n
    each : (i : ℕ) → i < n → IsSeen (F (from + i)) (seen_at sheet i)

  each_of : (from n : ℕ) (x : Seen) (rest : SheetOf (suc from) n) → IsSeen (F from) x → (i : ℕ) → i < suc n → IsSeen (F (from + i)) (seen_at (x ∷ rest.sheet) i)
  each_of from n x rest is zero inside = let same : from ≡ from + 0 = omega arith in subst (λ (p : ℕ). IsSeen (F p) x) same is
  each_of from n x rest is (suc i) inside =
      let same : suc from + i ≡ from + suc i = omega arith in
      subst (λ (p : ℕ). IsSeen (F p) (seen_at rest.sheet i)) same (rest.each i (omega (arith, inside)))

  sheet_from : (n from : ℕ) → IsThere (SheetOf from n)
  sheet_from zero from k = k (record { sheet = []; places = refl; each = λ i inside. absurd (omega (arith, inside)) })
  sheet_from (suc n) from k =
      seen_there (F from) (λ v h. (within from v h).1) (λ x.
      sheet_from n (suc from) (λ rest.
      k (record { sheet = x.0 ∷ rest.sheet; places = (let some = rest.places in omega (arith, some)); each = each_of from n x.0 rest x.1 })))

  none_past : (p : ℕ) → 64 ≤ p → IsSeen (F p) seen.None
  none_past p past v = false_of (F p v) (λ h. let few = (within p v h).0 in omega (arith, past, few))

  each_place : (s : SheetOf 0 64) (p : ℕ) → IsSeen (F p) (seen_at s.sheet p)
  each_place s p =
      elim (cases_lt p 64) [
        | inl inside ↦ (let same : 0 + p ≡ p = omega arith in subst (λ (q : ℕ). IsSeen (F q) (seen_at s.sheet p)) same (s.each p inside))
        | inr past ↦ (let all = s.places in subst (λ (x : Seen). IsSeen (F p) x) (sym (past_end s.sheet p (omega (arith, all, past)))) (none_past p past))
      ]

  sheet_there : IsThere ((sheet : List Seen) × IsEnds F sheet)
  sheet_there k = sheet_from 64 0 (λ s. k (s.sheet, record { places = s.places; each = each_place s }))

-- ---- what is told of each group

module _ (said : List ReceiverLine) (are : AreSome said) where
  record ToldOf (groups : List ℕ) : Type 0 where
    all : List GroupLine
    groups_are : map (λ told. told.group) all ≡ groups
    each : AllByRecursion (λ told. TellsEvidence (group_facts said told.group) told) all

  told_there : (groups : List ℕ) → IsThere (ToldOf groups)
  told_there [] k = k (record { all = []; groups_are = refl; each = tt })
  told_there (group ∷ groups) k =
      sheet_there (group_facts said group) (λ p v. group_within said group p v are) (λ sheet.
      told_there groups (λ rest. k (record {
        all = record { group = group; line = evidence_text group sheet.0 ++ line_feed ∷ []; is_well = true } ∷ rest.all;
        groups_are = ap (λ (l : List ℕ). group ∷ l) rest.groups_are;
        each = (record { sheet = sheet.0; are_ends = sheet.1; line_is = refl; well_is = refl }, rest.each);
      })))

  text_there : IsThere ((text : List ℕ) × (status : ℕ) × IsGroupsText TellsEvidence said text status)
  text_there k =
      let g = groups_of said in
      told_there g.0 (λ told. k (
        flat_map (λ (one : GroupLine). one.line) told.all,
        (if list_all (λ (one : GroupLine). one.is_well) told.all then 0 else 1),
        record {
          all = told.all;
          groups = subst (AreGroups said) (sym told.groups_are) g.1;
          each = told.each;
          text_is = refl;
          status_is = refl;
        },
      ))

pub evidence_never_stuck : IsNeverStuck (groups_meaning TellsEvidence)
evidence_never_stuck = record {
  gives = λ lines none k. k [] refl;
  ends = λ lines none k.
      said_there TellsEvidence [] lines none (λ said.
      text_there said.0 (some_lines said.0 lines said.1) (λ told.
      k told.0 told.1 (record { said = said.0; are_lines = said.1; is_text = told.2 })));
}
