-- The first fault of an input: this project's profile.
use Rattle.std.specs.Prelude.{◌≡◌, ℕ, ◌+◌, ◌<◌, ◌≤◌, List, [], ◌∷◌, ◌++◌, length, codes, decimal}
use Rattle.line_grammar.specs.Bytes.{line_feed}
use Rattle.line_engine.specs.declared.bounds.TheConstants.{MOST_LINES, LONGEST_LINE}
use Rattle.line_engine.specs.declared.faults.Fault.{Fault}
use Rattle.line_engine.specs.declared.faults.Fault.TheVariants.{TooManyLines, TooLong, Column, TooManyGroups}
use Rattle.line_engine.specs.Lines.{Lines}
use Rattle.line_engine.specs.Meaning.{Meaning}

-- a line after these is within the limits of lines and of bytes
pub record IsWithin (earlier : Lines) (line : List ℕ) : Type 0 where
  pub few : length earlier < MOST_LINES
  pub short : length line ≤ LONGEST_LINE

-- the fault of a line after these: the first of these four, in this order
abbrev pub IsFault : Meaning → (earlier : Lines) → (line : List ℕ) → Fault → Type 0
IsFault meaning earlier line TooManyLines = MOST_LINES ≤ length earlier
IsFault meaning earlier line TooLong = (length earlier < MOST_LINES) × (LONGEST_LINE < length line)
IsFault meaning earlier line (Column n) = IsWithin earlier line × meaning.IsIllFormed earlier line n
IsFault meaning earlier line TooManyGroups = IsWithin earlier line × ((n : ℕ) → meaning.IsIllFormed earlier line n → ⊥) × meaning.IsOverfull earlier line

-- no line has a fault
pub record IsFaultless (meaning : Meaning) (lines : Lines) : Type 0 where
  pub none : (earlier : Lines) (line : List ℕ) (later : Lines) (fault : Fault) → lines ≡ earlier ++ line ∷ later → IsFault meaning earlier line fault → ⊥

-- the first fault of these lines: the line of this number, counted from 1, has it, and no line before has one
pub record IsFirstFault (meaning : Meaning) (lines : Lines) (number : ℕ) (fault : Fault) : Type 0 where
  pub earlier : Lines
  pub line : List ℕ
  pub later : Lines
  pub list : lines ≡ earlier ++ line ∷ later
  pub at : number ≡ length earlier + 1
  pub is_fault : IsFault meaning earlier line fault
  pub faultless : IsFaultless meaning earlier

-- what is wrong with a line
abbrev pub fault_name : Fault → List ℕ
fault_name TooManyLines = codes " too many lines"
fault_name TooLong = codes " too long"
fault_name (Column n) = codes " column " ++ decimal n
fault_name TooManyGroups = codes " too many groups"

-- the line that names a fault
unfoldable pub fault_line : ℕ → Fault → List ℕ
fault_line number fault = codes "dsc: line " ++ decimal number ++ fault_name fault ++ line_feed ∷ []

-- the status of a fault: 3 for an ill-formed line and 7 for a limit
abbrev pub fault_status : Fault → ℕ
fault_status TooManyLines = 7
fault_status TooLong = 7
fault_status (Column n) = 3
fault_status TooManyGroups = 7
