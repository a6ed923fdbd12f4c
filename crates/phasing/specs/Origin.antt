-- The origin of a reception: ITU-R M.493, section on the phasing sequence. That no origin is before -150 is this
-- project's profile.
use Rattle.std.specs.Prelude.{ℕ, ◌+◌, ◌-◌, ◌/◌, Bool, ◌&&◌, ◌||◌, nat_le, List, [], ◌∷◌, length, count_by, find, Option, option_map, ℤ, pos, ◌-ℤ◌}
use Rattle.std.specs.List.{range_with_len}
use Rattle.dsc_symbols.specs.declared.phasing.TheConstants.{DX, RX_7}
use Rattle.ten_unit.specs.declared.character.Element.{Element}
use Rattle.phasing.specs.declared.reception.TheConstants.{LEAD_OF_FIRST}
use Rattle.phasing.specs.Slot.{shows}

-- how many DX slots show their phasing symbol, which is DX
abbrev pub dx_right : List Element → ℕ → ℕ
dx_right e lead = count_by (λ s. shows e lead s DX) (0 ∷ 2 ∷ 4 ∷ 6 ∷ 8 ∷ 10 ∷ [])

-- how many RX slots show theirs, which falls from RX 7 to RX 0
abbrev pub rx_right : List Element → ℕ → ℕ
rx_right e lead =
    count_by (λ s. shows e lead s (RX_7 - (s - 1) / 2)) (1 ∷ 3 ∷ 5 ∷ 7 ∷ 9 ∷ 11 ∷ 13 ∷ 15 ∷ [])

-- these many right phasing symbols are enough: two DX and one RX, or two RX and one DX, or three RX
abbrev pub is_enough : ℕ → ℕ → Bool
is_enough dx rx = (nat_le 2 dx && nat_le 1 rx) || (nat_le 2 rx && nat_le 1 dx) || nat_le 3 rx

-- a lead is phased where enough phasing symbols are right at it
unfoldable pub is_phased : List Element → ℕ → Bool
is_phased e lead = is_enough (dx_right e lead) (rx_right e lead)

-- the lead of the origin: the least phased one; none is phased past the reception's end
abbrev pub lead_of : List Element → Option ℕ
lead_of e = find (is_phased e) (range_with_len 0 (length e + LEAD_OF_FIRST))

-- the origin: where the transmission's slot 0 begins, as an index into the reception
abbrev pub origin_of : List Element → Option ℤ
origin_of e = option_map (λ lead. pos lead -ℤ pos LEAD_OF_FIRST) (lead_of e)
