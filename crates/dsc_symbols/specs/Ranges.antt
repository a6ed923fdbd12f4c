-- Sets of symbols as lists of ranges.
use Rattle.std.specs.Prelude.{ℕ, ◌≤◌, ◌⊎◌, List, [], ◌∷◌}

-- the symbol is in one of these ranges, each from its first to its last
abbrev pub IsAmong : List (ℕ × ℕ) → ℕ → Type 0
IsAmong [] symbol = ⊥
IsAmong (range ∷ ranges) symbol = ((range.0 ≤ symbol) × (symbol ≤ range.1)) ⊎ IsAmong ranges symbol
