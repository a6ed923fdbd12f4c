-- The two facts of the worked row.
use Rattle.std.specs.Prelude.{ℕ, List, [], ◌∷◌}

-- place 8 showed 14, and it showed 22
abbrev pub two_facts : List (ℕ × ℕ)
two_facts = (8, 14) ∷ (8, 22) ∷ []
