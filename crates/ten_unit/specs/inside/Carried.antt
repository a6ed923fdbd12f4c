-- The number that received information elements carry, whether or not they are a word.
use Rattle.std.specs.Prelude.{ℕ, ◌+◌, ◌*◌, List, ◌∷◌}
use Rattle.ten_unit.specs.declared.character.Element.{Element}
use Rattle.ten_unit.specs.declared.character.Element.TheVariants.{Y, B, Lost}

-- Y counts as 1
abbrev pub ones : Element → ℕ
ones Y = 1
ones B = 0
ones Lost = 0

-- the number of the first seven elements, least significant first
abbrev pub value_of : List Element → ℕ
value_of (a ∷ b ∷ c ∷ d ∷ e ∷ f ∷ g ∷ rest) = ones a + 2 * ones b + 4 * ones c + 8 * ones d + 16 * ones e + 32 * ones f + 64 * ones g
value_of _ = 0
