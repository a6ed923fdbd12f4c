-- Rows of a grammar to the end of a line: the texts of values, and what readers of rows answer. This project's profile.
use Rattle.std.specs.Prelude.{◌≡◌, ℕ, ◌+◌, ◌≤◌, List, length, Result, Ok, Err}
use Rattle.line_grammar.specs.Columns.{Spelling, IsColumn}
use Rattle.line_grammar.specs.Grammar.{Grammar, finish, Parts, none, written}
use Rattle.line_grammar.specs.inside.Reading.{read}

-- the bytes are what rows write of the parts of a value in its ranges
abbrev pub IsWritten : {V : Type 0} (rows : Grammar → Grammar) (Lawful : V → Type 0) (parts : V → Parts → Parts) → V → List ℕ → Type 0
IsWritten rows Lawful parts v bytes = Lawful v × (bytes ≡ written (rows finish) (parts v none))

-- a reader of rows to the end of a line: the bytes were read whole as a value in its ranges whose parts are at this
-- place among the rows; or this many bytes are left
abbrev pub ReadsRow : {V : Type 0} (rows : Grammar → Grammar) (place : Parts → Parts) (Lawful : V → Type 0) (parts : V → Parts → Parts) → (bytes : List ℕ) → Result V ℕ → Type 0
ReadsRow rows place Lawful parts bytes (Ok v) = Lawful v × ((own : Parts) × (read (rows finish) bytes ≡ Ok own) × (parts v none ≡ place own))
ReadsRow rows place Lawful parts bytes (Err left) = read (rows finish) bytes ≡ Err left

-- a reader of some of the rows: what it answers is read so, whatever the others are
abbrev pub FindsRow : {V : Type 0} (rows : Grammar → Grammar) (place : Parts → Parts) (Lawful : V → Type 0) (parts : V → Parts → Parts) → (bytes : List ℕ) → Result V ℕ → Type 0
FindsRow rows place Lawful parts bytes (Ok v) = ReadsRow rows place Lawful parts bytes (Ok v)
FindsRow rows place Lawful parts bytes (Err left) = Unit {0}

-- the same as `ReadsRow` of a reader that counts the column of the byte at which it leaves them
abbrev pub ReadsWhole : {V : Type 0} (rows : Grammar → Grammar) (Lawful : V → Type 0) (parts : V → Parts → Parts) → (bytes : List ℕ) → Result V ℕ → Type 0
ReadsWhole rows Lawful parts bytes (Ok v) = ReadsRow rows (λ p. p) Lawful parts bytes (Ok v)
ReadsWhole rows Lawful parts bytes (Err n) = (left : ℕ) × (n + left ≡ length bytes + 1) × (read (rows finish) bytes ≡ Err left)

-- what was read is a line of these under its name, or else the column among them of bytes that are no such line
abbrev pub ReadsAmong : {V W : Type 0} (L : Spelling W) (says : V → W) (bytes : List ℕ) → Result V ℕ → Type 0
ReadsAmong L says bytes (Ok v) = L (says v) bytes
ReadsAmong L says bytes (Err n) = (1 ≤ n) × IsColumn L bytes n
