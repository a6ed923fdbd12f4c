-- a reader among lines that each say one thing reads them
use Rattle.std.proofs.Common.{◌≡◌, ℕ, List, Result, Ok, Err}
use Rattle.line_grammar.specs.Columns.{ReadsAs}
use Rattle.line_grammar.specs.Rows.{ReadsAmong}

pub only : {W : Type 0} (L : W → List ℕ → Type 0) → ((a b : W) (text : List ℕ) → L a text → L b text → a ≡ b) → (bytes : List ℕ) (r : Result W ℕ) → ReadsAmong L (λ w. w) bytes r → ReadsAs L bytes r
only L one bytes (Ok w) h = (h, λ u k. one u w bytes k h)
only L one bytes (Err n) h = h.1
