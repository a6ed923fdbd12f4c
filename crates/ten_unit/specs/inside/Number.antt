-- Elements as a number, for a look into a table. This project's own form.
use Rattle.std.specs.Prelude.{ℕ, ◌+◌, ◌*◌, List, [], ◌∷◌}
use Rattle.ten_unit.specs.declared.character.Element.{Element}
use Rattle.ten_unit.specs.declared.character.Element.TheVariants.{Y, B, Lost}

-- what an element counts; a lost one counts more than ten others can
abbrev pub weight : Element → ℕ
weight Y = 1
weight B = 0
weight Lost = 1024

-- the number of some elements, of which each counts twice the one before
abbrev pub number_of : List Element → ℕ
number_of [] = 0
number_of (first ∷ rest) = weight first + 2 * number_of rest
