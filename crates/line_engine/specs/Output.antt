-- What a list of lines asks to be written: this project's profile.
use Rattle.std.specs.Prelude.{◌≡◌, ◌≢◌, ℕ, ◌⊎◌, List, [], ◌++◌}
use Rattle.line_engine.specs.declared.faults.Fault.{Fault}
use Rattle.line_engine.specs.Lines.{Lines}
use Rattle.line_engine.specs.Meaning.{Meaning}
use Rattle.line_engine.specs.Faults.{IsFaultless, IsFirstFault, fault_line, fault_status}

-- an input of these lines has no fault, and has this text and status
pub record IsWhole (meaning : Meaning) (lines : Lines) (text : List ℕ) (status : ℕ) : Type 0 where
  pub faultless : IsFaultless meaning lines
  pub ends : meaning.Ends lines text status

-- an input of these lines has a fault: its text is what the lines before the first one gave, and the line that names it
pub record IsFaulty (meaning : Meaning) (lines : Lines) (text : List ℕ) (status : ℕ) : Type 0 where
  pub number : ℕ
  pub fault : Fault
  pub first : IsFirstFault meaning lines number fault
  pub given : List ℕ
  pub gives : meaning.Gives first.earlier given
  pub text_is : text ≡ given ++ fault_line number fault
  pub status_is : status ≡ fault_status fault

-- first lines of these have no fault, and give this text
pub record IsSoFar (meaning : Meaning) (lines : Lines) (text : List ℕ) : Type 0 where
  pub first : Lines
  pub later : Lines
  pub list : lines ≡ first ++ later
  pub faultless : IsFaultless meaning first
  pub gives : meaning.Gives first text

-- the output that an input of these lines asks for
abbrev pub IsOutput : Meaning → Lines → (text : List ℕ) → (status : ℕ) → Type 0
IsOutput meaning lines text status = IsWhole meaning lines text status ⊎ IsFaulty meaning lines text status

-- a text that these lines ask for, in whole or, where it isn't empty, so far
abbrev pub Asks : Meaning → Lines → (text : List ℕ) → Type 0
Asks meaning lines text = ((status : ℕ) × IsOutput meaning lines text status) ⊎ ((text ≢ []) × IsSoFar meaning lines text)

-- a text that these lines ask for before their end: that of their first fault or, where it isn't empty, so far
abbrev pub AsksEarly : Meaning → Lines → (text : List ℕ) → Type 0
AsksEarly meaning lines text = ((status : ℕ) × IsFaulty meaning lines text status) ⊎ ((text ≢ []) × IsSoFar meaning lines text)
