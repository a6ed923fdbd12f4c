-- What the readers of lines answer: this project's profile.
use Rattle.std.specs.Prelude.{ℕ, List, Result, Ok, Err}
use Rattle.line_grammar.specs.Columns.{Spelling, IsColumn}

-- the answer for a line of these: what it says, or the column of bytes that are no such line
abbrev pub Reads : {W : Type 0} (L : Spelling W) → List ℕ → Result W ℕ → Type 0
Reads L text (Ok says) = L says text
Reads L text (Err n) = IsColumn L text n
