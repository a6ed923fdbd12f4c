-- The lines of join's and of evidence's input, a row for each with its parts and an example: this project's profile.
use Rattle.std.specs.Prelude.{◌≡◌, ℕ, ◌<◌, ◌^◌, Bool, true, false, List, [], ◌∷◌, ◌++◌, length, map, codes, decimal, All}
use Rattle.ten_unit.specs.declared.character.Element.{Element}
use Rattle.ten_unit.specs.declared.character.Element.TheVariants.{Y, B, Lost}
use Rattle.line_grammar.specs.Tokens.{run, free_number}
use Rattle.line_grammar.specs.Grammar.{Grammar, finish, anything, word, field, either, Parts, none, part, first, second, Spells, written}
use Rattle.line_grammar.specs.Repeats.{repeated}

-- what a line says: nothing; that a receiver of this group heard these elements; or that receivers of this group showed
-- these pairs of a place and a symbol
pub data ReceiverLine : Type 0 where
  nothing : ReceiverLine
  reception : ℕ → List Element → ReceiverLine
  evidence : ℕ → List (ℕ × ℕ) → ReceiverLine

-- the empty line, or # and anything: # at noon
abbrev pub empty_or_comment : Grammar
empty_or_comment = either finish (word (codes "#") anything)

-- the lines that say nothing: those of this row
abbrev pub IsNothing : List ℕ → Type 0
IsNothing text = (parts : Parts) × Spells empty_or_comment parts text

-- the sign of an element: Y, B, and - for a lost one
abbrev pub sign_of : Element → ℕ
sign_of Y = 89
sign_of B = 66
sign_of Lost = 45

-- signs, up to the end of the line: YBY-
abbrev pub signs : Grammar
signs = field (run (codes "YB-")) finish

-- the parts of elements: their signs
abbrev pub signs_parts : List Element → Parts
signs_parts e = part (map sign_of e) none

-- the end of the line, or a blank and what follows it
abbrev pub behind_blank : Grammar → Grammar
behind_blank rest = either finish (word (codes " ") rest)

-- the parts of the elements of a reception: of none the end of the line
abbrev pub body_parts : List Element → Parts
body_parts [] = first none
body_parts (e ∷ rest) = second (signs_parts (e ∷ rest))

-- a group or none, and what follows it: a blank and g7
abbrev pub grouped : Grammar → Grammar
grouped rest = either rest (word (codes " g") (field (free_number 0 4294967295) rest))

-- the parts of a group that is named or isn't, and of what follows it
abbrev pub group_parts : (named : Bool) → ℕ → Parts → Parts
group_parts false group rest = first rest
group_parts true group rest = second (part (decimal group) rest)

-- each group may be named, and group 0 needs no name
abbrev pub IsGroup : (named : Bool) → ℕ → Type 0
IsGroup false group = group ≡ 0
IsGroup true group = group < 2 ^ 32

-- r g7 YBY-
abbrev pub reception_line : Grammar
reception_line = word (codes "r") (grouped (behind_blank signs))

-- the text of a reception whose group is named or isn't
abbrev pub text_of_reception : (named : Bool) → ℕ → List Element → List ℕ
text_of_reception named group e = written reception_line (group_parts named group (body_parts e))

-- a place and a symbol, and what follows them: 8:14
abbrev pub pair : Grammar → Grammar
pair rest = field (free_number 0 63) (word (codes ":") (field (free_number 0 127) rest))

-- the parts of pairs, one after the other
abbrev pub pairs_parts : List (ℕ × ℕ) → Parts
pairs_parts [] = none
pairs_parts (shown ∷ pairs) = second (part (decimal shown.0) (part (decimal shown.1) (pairs_parts pairs)))

-- a pair has one of 64 places and one of 128 symbols
abbrev pub IsPair : ℕ × ℕ → Type 0
IsPair shown = (shown.0 < 64) × (shown.1 < 128)

-- evidence of so many pairs at most: e g7 0:112 8:14 8:22
abbrev pub evidence_line : ℕ → Grammar
evidence_line n = word (codes "e") (grouped (repeated pair n))

-- the text of evidence whose group is named or isn't
abbrev pub text_of_evidence : (named : Bool) → ℕ → List (ℕ × ℕ) → List ℕ
text_of_evidence named group pairs = written (evidence_line (length pairs)) (group_parts named group (pairs_parts pairs))

-- the well-formed lines: those that say nothing, and what the rows of receptions and of evidence write; pairs come in
-- any order
abbrev pub IsLine : ReceiverLine → List ℕ → Type 0
IsLine nothing text = IsNothing text
IsLine (reception group e) text = (named : Bool) × (IsGroup named group × (text ≡ text_of_reception named group e))
IsLine (evidence group pairs) text = (named : Bool) × (IsGroup named group × (All IsPair pairs × (text ≡ text_of_evidence named group pairs)))
