-- The lines of a stream: this project's profile.
use Rattle.std.specs.Prelude.{◌≡◌, ◌≢◌, ℕ, List, [], ◌⊎◌, codes}
use Rattle.ten_unit.specs.declared.character.Element.{Element}
use Rattle.line_grammar.specs.Grammar.{Grammar, word, written}
use Rattle.input_lines.specs.ReceiverLine.{signs, signs_parts, IsNothing}

-- s YBY-
abbrev pub elements_line : Grammar
elements_line = word (codes "s") (word (codes " ") signs)

-- the well-formed lines, and which elements they add to the stream: none by a line that says nothing, and some by what
-- the row writes of them
abbrev pub IsStreamLine : List Element → List ℕ → Type 0
IsStreamLine e text = ((e ≡ []) × IsNothing text) ⊎ ((e ≢ []) × (text ≡ written elements_line (signs_parts e)))
