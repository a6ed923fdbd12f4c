-- the first phased lead among those of a block of 64, before which none is phased from a place on
use Rattle.std.proofs.Common.{◌≡◌, ℕ, ◌+◌, ◌-◌, ◌/◌, ◌<◌, ◌≤◌, true, false, List, length, inl, inr, arith, ap, sym, ◌∙◌}
use Rattle.std.specs.Int.{trailing_zeros, w64}
use Rattle.std.proofs.lemmas.Bool.{cases_lt, both_ways}
use Rattle.ten_unit.specs.declared.character.Element.{Element}
use Rattle.ten_unit.specs.inside.Marks.{IsMarks}
use Rattle.phasing.specs.Origin.{is_phased}
use Rattle.phasing.specs.inside.Marked.{IsFirstPhased}
use Rattle.phasing.proofs.Leads.{is_phased-early, is_phased-past}
use Rattle.phasing.proofs.BitTests.{none_marked, first_marked, none_later, first_later}

-- a block without a mark
pub none_in_block : (e : List Element) (w from base : ℕ) → IsMarks w base (is_phased e) → w ≡ 0 → ((k : ℕ) → from ≤ k → k < base → is_phased e k ≡ false) → (k : ℕ) → from ≤ k → k < base + 64 → is_phased e k ≡ false
none_in_block e w from base marks empty before k low below =
    elim (cases_lt k base) [
      | inl early ↦ before k low early
      | inr late ↦
          let index : base + (k - base) ≡ k = omega arith in
          ap (is_phased e) (sym index) ∙ none_marked w base (is_phased e) marks empty (k - base) (omega arith)
    ]

-- a phased lead is inside the reception
pub phased_within : (e : List Element) (lead : ℕ) → is_phased e lead ≡ true → lead < length e + 150
phased_within e lead phased =
    elim (cases_lt lead (length e + 150)) [
      | inl inside ↦ inside
      | inr past ↦ absurd (both_ways (is_phased e lead) (is_phased-past e lead past) phased)
    ]

-- a phased lead is 40 or later
pub phased_late : (e : List Element) (lead : ℕ) → is_phased e lead ≡ true → 40 ≤ lead
phased_late e lead phased =
    elim (cases_lt lead 40) [
      | inl early ↦ absurd (both_ways (is_phased e lead) (is_phased-early e lead early) phased)
      | inr late ↦ late
    ]

-- a block with a mark has the first phased lead at its first one
pub first_in_block : (e : List Element) (w from base : ℕ) → IsMarks w base (is_phased e) → 0 < w → from ≤ base → ((k : ℕ) → from ≤ k → k < base → is_phased e k ≡ false) → IsFirstPhased e from (base + trailing_zeros w64 w)
first_in_block e w from base marks some late before =
    let first = first_marked w base (is_phased e) marks some in
    record {
      phased = first.holds;
      from = omega arith;
      within = phased_within e (base + trailing_zeros w64 w) first.holds;
      none =
          λ k low below.
          elim (cases_lt k base) [
            | inl early ↦ before k low early
            | inr past ↦
                let index : base + (k - base) ≡ k = omega arith in
                ap (is_phased e) (sym index) ∙ first.none (k - base) (omega arith)
          ];
    }

-- ---- the block of a front's first 64 indices

index_at : (e : List Element) (k : ℕ) → 1 ≤ k → is_phased e (150 + (1 + (k - 1))) ≡ is_phased e (k + 150)
index_at e k from =
    let index : 150 + (1 + (k - 1)) ≡ k + 150 = omega arith in
    ap (is_phased e) index

-- no index of it but the first one is phased
pub none_in_front : (e : List Element) (w : ℕ) → IsMarks w 150 (is_phased e) → w / 2 ≡ 0 → (k : ℕ) → 1 ≤ k → k < 64 → is_phased e (k + 150) ≡ false
none_in_front e w marks empty k from below = sym (index_at e k from) ∙ none_later w 150 (is_phased e) marks empty (k - 1) (omega arith)

-- one of them is, and this is the first
pub record IsFrontNext (e : List Element) (next : ℕ) : Type 0 where
  pub within : next < 64
  pub phased : is_phased e (next + 150) ≡ true
  pub none : (k : ℕ) → 1 ≤ k → k < next → is_phased e (k + 150) ≡ false

pub next_in_front : (e : List Element) (w next : ℕ) → IsMarks w 150 (is_phased e) → 0 < w / 2 → next ≡ 1 + trailing_zeros w64 (w / 2) → IsFrontNext e next
next_in_front e w next marks some is =
    let first = first_later w 150 (is_phased e) marks some in
    let index : next + 150 ≡ 150 + (1 + trailing_zeros w64 (w / 2)) = omega (arith, is) in
    record {
      within = omega (arith, is, first.within);
      phased = ap (is_phased e) index ∙ first.holds;
      none = λ k from below. sym (index_at e k from) ∙ first.none (k - 1) (omega (arith, is));
    }
