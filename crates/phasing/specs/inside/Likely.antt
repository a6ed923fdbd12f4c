-- What says quickly of most leads that they aren't phased: lost elements are taken for B. This project's own form.
use Rattle.std.specs.Prelude.{◌≡◌, ℕ, ◌+◌, ◌<◌, ◌^◌, Bool, true, nat_le, if◌then◌else◌}
use Rattle.std.specs.Int.{bit_at}
use Rattle.ten_unit.specs.declared.character.Element.{Element}
use Rattle.ten_unit.specs.declared.character.Element.TheVariants.{Y, B, Lost}
use Rattle.phasing.specs.declared.reception.TheConstants.{LEAD_OF_FIRST}

-- B in the place of a lost element
abbrev pub b_for_lost : Element → Element
b_for_lost Y = Y
b_for_lost B = B
b_for_lost Lost = B

-- the elements from a reception's first place on with B in the place of each lost one, and lost ones before it
abbrev pub filled : (ℕ → Element) → ℕ → Element
filled e place = if nat_le LEAD_OF_FIRST place then b_for_lost (e place) else Lost

-- bit i of the word is 1 wherever the test holds at place base + i
pub record HasAll (word base : ℕ) (f : ℕ → Bool) : Type 0 where
  pub fits : word < 2 ^ 64
  pub each : (i : ℕ) → i < 64 → f (base + i) ≡ true → bit_at word i ≡ 1
