-- Places of a reception, for tests of many of them at once: element 0 is at place 150, and slot s of lead q begins at
-- place q + 10 s. This project's own form.
use Rattle.std.specs.Prelude.{ℕ, ◌+◌, ◌-◌, Bool, true, ◌&&◌, nat_le, if◌then◌else◌, List, [], ◌∷◌, slice_index_or}
use Rattle.ten_unit.specs.declared.character.Element.{Element}
use Rattle.ten_unit.specs.declared.character.Element.TheVariants.{Lost}
use Rattle.ten_unit.specs.Word.{element_eq}
use Rattle.phasing.specs.declared.reception.TheConstants.{LEAD_OF_FIRST}

-- the element at a place; outside the reception it is lost
abbrev pub element_at : List Element → ℕ → Element
element_at e place = if nat_le LEAD_OF_FIRST place then slice_index_or e (place - LEAD_OF_FIRST) Lost else Lost

-- the elements from a place on are those of a word
abbrev pub is_at : (ℕ → Element) → List Element → ℕ → Bool
is_at e [] place = true
is_at e (element ∷ word) place = element_eq (e place) element && is_at e word (place + 1)
