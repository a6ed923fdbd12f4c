-- What words of 64 bits say of 64 leads at once, a bit a lead: which phasing symbols begin at a place, and how many are
-- right. This project's own form.
use Rattle.std.specs.Prelude.{◌≡◌, ℕ, ◌+◌, ◌-◌, ◌<◌, ◌≤◌, true, false, nat_le, List, [], ◌∷◌, length, map, slice_index}
use Rattle.dsc_symbols.specs.declared.phasing.TheConstants.{DX, RX_7, RX_6, RX_5, RX_4, RX_3, RX_2, RX_1, RX_0}
use Rattle.ten_unit.specs.declared.character.Element.{Element}
use Rattle.ten_unit.specs.inside.Marks.{IsMarks}
use Rattle.ten_unit.specs.Word.{word_of}
use Rattle.phasing.specs.declared.marking.Phasing.{Phasing}
use Rattle.phasing.specs.declared.counting.Count.{Count}
use Rattle.phasing.specs.declared.reception.TheConstants.{LEAD_OF_FIRST}
use Rattle.phasing.specs.Origin.{is_phased}
use Rattle.phasing.specs.inside.Places.{is_at}

-- at which of 64 places from base on the word of DX begins, and those of RX 7 down to RX 0
pub record ArePhasing (marks : Phasing) (base : ℕ) (e : ℕ → Element) : Type 0 where
  pub dx : IsMarks marks.dx base (is_at e (word_of DX))
  pub rx : (k : ℕ) → k < 8 → IsMarks (slice_index marks.rx k) base (is_at e (word_of (RX_7 - k)))

-- at which of 64 places from base on a number is at least one, at least two, at least three
pub record IsCount (count : Count) (base : ℕ) (number : ℕ → ℕ) : Type 0 where
  pub one : IsMarks count.one base (λ place. nat_le 1 (number place))
  pub two : IsMarks count.two base (λ place. nat_le 2 (number place))
  pub three : IsMarks count.three base (λ place. nat_le 3 (number place))

-- the words of the symbols RX 7 down to RX 0
abbrev pub AreRxWords : List (List Element) → Type 0
AreRxWords words = words ≡ map word_of (RX_7 ∷ RX_6 ∷ RX_5 ∷ RX_4 ∷ RX_3 ∷ RX_2 ∷ RX_1 ∷ RX_0 ∷ [])

-- the first phased lead from a place on
pub record IsFirstPhased (e : List Element) (base lead : ℕ) : Type 0 where
  pub phased : is_phased e lead ≡ true
  pub from : base ≤ lead
  pub within : lead < length e + LEAD_OF_FIRST
  pub none : (k : ℕ) → base ≤ k → k < lead → is_phased e k ≡ false
