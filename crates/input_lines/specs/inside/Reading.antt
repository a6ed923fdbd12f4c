-- The grammars by which lines are read, and the texts of their parts: this project's profile.
use Rattle.std.specs.Prelude.{◌≡◌, ℕ, suc, Bool, true, List, ◌∷◌, ◌++◌, length, codes, Err}
use Rattle.line_grammar.specs.Grammar.{Grammar, finish, word, either, none, written}
use Rattle.line_grammar.specs.Repeats.{repeated}
use Rattle.line_grammar.specs.inside.Reading.{read}
use Rattle.line_grammar.specs.inside.Soundness.{is_sound}
use Rattle.ten_unit.specs.declared.character.Element.{Element}
use Rattle.input_lines.specs.ReceiverLine.{empty_or_comment, signs, behind_blank, body_parts, grouped, group_parts, IsGroup, pair, pairs_parts, reception_line, evidence_line}

-- a blank and signs
abbrev pub blank_and_signs : Grammar
blank_and_signs = word (codes " ") signs

-- the lines of join's input whose evidence has so many pairs at most
abbrev pub join_lines : ℕ → Grammar
join_lines n = either empty_or_comment (either reception_line (evidence_line n))

-- what the rows write of a group, of elements and of pairs
abbrev pub group_text : (named : Bool) → ℕ → List ℕ
group_text named group = written (grouped finish) (group_parts named group none)

abbrev pub body_text : List Element → List ℕ
body_text e = written (behind_blank signs) (body_parts e)

abbrev pub pairs_text : List (ℕ × ℕ) → List ℕ
pairs_text pairs = written (repeated pair (length pairs)) (pairs_parts pairs)

-- the rest after a blank differs from a group: it stops at once at a g
pub record IsBehindBlank (rest : Grammar) : Type 0 where
  pub sound : is_sound rest ≡ true
  pub no_group : (bytes : List ℕ) → read rest (103 ∷ bytes) ≡ Err (suc (length bytes))

-- the bytes begin with a group, which is named or isn't, and what follows it
abbrev pub IsNamed : (group : ℕ) (bytes back : List ℕ) → Type 0
IsNamed group bytes back = (named : Bool) × (IsGroup named group × (bytes ≡ group_text named group ++ back))
