-- Readers of sections of lines, and the place of a form among others: this project's profile.
use Rattle.std.specs.Prelude.{◌≡◌, ℕ, zero, suc, List, Result, Ok, Err}
use Rattle.line_grammar.specs.Grammar.{Grammar, word, field, Parts, first, second}
use Rattle.line_grammar.specs.Tokens.{Token}
use Rattle.line_grammar.specs.inside.Reading.{read, named}

-- a token after its label, and what follows it
abbrev pub labelled : List ℕ → Token → Grammar → Grammar
labelled label token rest = word label (field token rest)

-- a reader of a section: it was read with the value's parts, and what follows it is read next; or this many bytes are
-- left where they leave it
abbrev pub ReadsSection : {V : Type 0} (G : Grammar → Grammar) (parts : V → Parts → Parts) → (old : List ℕ) → Result V ℕ → (new : List ℕ) → Type 0
ReadsSection G parts old (Ok v) new = (rest : Grammar) → read (G rest) old ≡ named (parts v) (read rest new)
ReadsSection G parts old (Err left) new = (rest : Grammar) → read (G rest) old ≡ Err left

-- a reader of a form: the bytes were read whole as a value whose parts are at this place among the forms; or this many
-- bytes are left where they leave it
abbrev pub ReadsForm : {V : Type 0} (G : Grammar) (place : Parts → Parts) (parts : V → Parts) → (bytes : List ℕ) → Result V ℕ → Type 0
ReadsForm G place parts bytes (Ok v) = (own : Parts) × (read G bytes ≡ Ok own) × (parts v ≡ place own)
ReadsForm G place parts bytes (Err left) = read G bytes ≡ Err left

-- a reader of some of the forms: what it answers is read so, whatever the others are
abbrev pub FindsForm : {V : Type 0} (G : Grammar) (place : Parts → Parts) (parts : V → Parts) → (bytes : List ℕ) → Result V ℕ → Type 0
FindsForm G place parts bytes (Ok v) = ReadsForm G place parts bytes (Ok v)
FindsForm G place parts bytes (Err left) = Unit {0}

-- a reader of what comes from a place to the end of a line
abbrev pub ReadsTail : {V : Type 0} (G : Grammar) (parts : V → Parts) → (bytes : List ℕ) → Result V ℕ → Type 0
ReadsTail G parts bytes (Ok v) = read G bytes ≡ Ok (parts v)
ReadsTail G parts bytes (Err left) = read G bytes ≡ Err left

-- the parts of a form that comes after so many others, and before the last
abbrev pub nth : ℕ → Parts → Parts
nth zero parts = first parts
nth (suc n) parts = second (nth n parts)

-- the parts of the last form, which comes after so many others
abbrev pub last : ℕ → Parts → Parts
last zero parts = parts
last (suc n) parts = second (last n parts)
