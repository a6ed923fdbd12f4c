-- The start of a call on air: ITU-R M.493, sections on the dot pattern and the phasing sequence.
use Rattle.std.specs.Prelude.{◌≡◌, ◌⊎◌, ℕ, ◌+◌, ◌-◌, ◌<◌, ◌≤◌, Bool, true, List, [], ◌∷◌, length, slice_index_or}
use Rattle.dsc_symbols.specs.declared.formats.TheConstants.{DISTRESS, ALL_SHIPS, AREA, GROUP, INDIVIDUAL}
use Rattle.dsc_symbols.specs.declared.phasing.TheConstants.{DX, RX_7, RX_6, RX_5, RX_4, RX_3, RX_2, RX_1, RX_0}
use Rattle.ten_unit.specs.declared.character.Element.{Element}
use Rattle.ten_unit.specs.declared.character.Element.TheVariants.{Lost}
use Rattle.phasing.specs.declared.reception.TheConstants.{LEAD_OF_FIRST}
use Rattle.phasing.specs.Origin.{is_phased}
use Rattle.phasing.specs.Sent.{dot_count, sent}

-- the symbols of slots 0 to 15 of a call: DX in the DX slots and RX 7 down to RX 0 in the RX slots, and from slot 12 on
-- the format specifier in the DX slots
abbrev pub start_symbols : ℕ → List ℕ
start_symbols format =
    DX ∷ RX_7 ∷ DX ∷ RX_6 ∷ DX ∷ RX_5 ∷ DX ∷ RX_4 ∷ DX ∷ RX_3 ∷ DX ∷ RX_2 ∷ format ∷ RX_1 ∷ format ∷ RX_0 ∷ []

-- the format specifiers of calls
abbrev pub formats : List ℕ
formats = DISTRESS ∷ ALL_SHIPS ∷ AREA ∷ GROUP ∷ INDIVIDUAL ∷ []

-- a reception's start is intact: its origin is no later than the number of dots; up to the end of slot 15 each element
-- that was received is lost or the one that was sent (a reception may begin late); and enough phasing symbols are right
-- at its lead
pub record IsIntactStart (e : List Element) (slots : List ℕ) (long : Bool) (lead : ℕ) : Type 0 where
  pub early : lead ≤ dot_count long + LEAD_OF_FIRST
  pub intact : (i : ℕ) → i < length e → i < lead + 10 → (slice_index_or e i Lost ≡ Lost) ⊎ (slice_index_or e i Lost ≡ slice_index_or (sent slots long) (i + LEAD_OF_FIRST + dot_count long - lead) Lost)
  pub phased : is_phased e lead ≡ true
