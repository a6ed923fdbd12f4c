-- The signs of elements in texts: Y, B, and - for a lost one. This project's profile.
use Rattle.std.specs.Prelude.{ℕ, ◌==◌, Bool, ◌||◌, if◌then◌else◌}
use Rattle.ten_unit.specs.declared.character.Element.{Element}
use Rattle.ten_unit.specs.declared.character.Element.TheVariants.{Y, B, Lost}

-- the element of a sign; any other byte is a lost one
abbrev pub element_of : ℕ → Element
element_of sign = if sign == 89 then Y else (if sign == 66 then B else Lost)

-- a byte is a sign
abbrev pub is_sign : ℕ → Bool
is_sign byte = byte == 89 || (byte == 66 || byte == 45)
