-- The numbers that elements are kept as. This project's own form.
use Rattle.std.specs.Prelude.{ℕ}
use Rattle.ten_unit.specs.declared.character.Element.{Element}
use Rattle.ten_unit.specs.declared.character.Element.TheVariants.{Y, B, Lost}

-- the number of an element
abbrev pub code_of : Element → ℕ
code_of Y = 0
code_of B = 1
code_of Lost = 2
