-- The lines of logs of sentences: this project's profile.
use Rattle.std.specs.Prelude.{◌≡◌, nat_eq, ℕ, Bool, true, List, codes}
use Rattle.std.specs.List.{starts_with}
use Rattle.input_lines.specs.declared.books.BookLine.{BookLine}
use Rattle.input_lines.specs.declared.books.BookLine.TheVariants.{Nothing, Sentence}
use Rattle.input_lines.specs.ReceiverLine.{IsNothing}

-- the line is a sentence: it begins with $
abbrev pub is_sentence : List ℕ → Bool
is_sentence text = starts_with nat_eq text (codes "$")

-- the well-formed lines: those that say nothing, and sentences
abbrev pub IsBookLine : BookLine → List ℕ → Type 0
IsBookLine Nothing text = IsNothing text
IsBookLine Sentence text = is_sentence text ≡ true
