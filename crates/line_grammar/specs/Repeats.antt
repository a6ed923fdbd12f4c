-- Parts that a line has any number of times, one after the other: this project's profile.
use Rattle.std.specs.Prelude.{ℕ, zero, suc, ◌≤◌, List, codes}
use Rattle.line_grammar.specs.Grammar.{Grammar, finish, word, either, Parts, Spells}

-- up to so many times a blank and such a part, and then the end of the line
abbrev pub repeated : (Grammar → Grammar) → ℕ → Grammar
repeated item zero = finish
repeated item (suc n) = either finish (word (codes " ") (item (repeated item n)))

-- the language of grammars of every size: what one of them spells
abbrev pub SpellsSome : (ℕ → Grammar) → Parts → List ℕ → Type 0
SpellsSome G parts bytes = (n : ℕ) × Spells (G n) parts bytes

-- the grammars grow: a line of one of them is a line of every larger one
abbrev pub Grow : (ℕ → Grammar) → Type 0
Grow G = (m n : ℕ) (parts : Parts) (bytes : List ℕ) → m ≤ n → Spells (G m) parts bytes → (others : Parts) × Spells (G n) others bytes
