-- The slots of a reception: ITU-R M.493, section on time diversity.
-- A lead counts from 150 elements before the reception's first element, so that lead q stands for the origin q - 150.
use Rattle.std.specs.Prelude.{ℕ, ◌+◌, ◌-◌, ◌*◌, Bool, ◌&&◌, nat_le, if◌then◌else◌, List, [], length, take, drop}
use Rattle.ten_unit.specs.declared.character.Element.{Element}
use Rattle.ten_unit.specs.Word.{is_word}
use Rattle.phasing.specs.declared.reception.TheConstants.{LEAD_OF_FIRST}

-- the ten elements of a slot at a lead, where all ten are inside the reception, and else none
abbrev pub slot : List Element → ℕ → ℕ → List Element
slot e lead s =
    if nat_le LEAD_OF_FIRST (lead + 10 * s) && nat_le (lead + 10 * s + 10) (length e + LEAD_OF_FIRST)
    then take 10 (drop (lead + 10 * s - LEAD_OF_FIRST) e)
    else []

-- a slot shows a symbol where its ten elements are the symbol's word
unfoldable pub shows : List Element → ℕ → ℕ → ℕ → Bool
shows e lead s v = is_word (slot e lead s) v
