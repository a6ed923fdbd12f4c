-- Lines that determine their output: this project's profile.
use Rattle.std.specs.Prelude.{◌≡◌, ℕ, ◌⊎◌, List, ◌++◌}
use Rattle.line_engine.specs.Lines.{Lines}
use Rattle.line_engine.specs.Meaning.{Meaning}
use Rattle.line_engine.specs.Faults.{IsFaultless}
use Rattle.line_engine.specs.Output.{IsOutput}

-- an ill-formed line has one column
abbrev pub HasOneColumn : Meaning → Type 0
HasOneColumn meaning = (earlier : Lines) (line : List ℕ) (m n : ℕ) → meaning.IsIllFormed earlier line m → meaning.IsIllFormed earlier line n → m ≡ n

-- each line is ill-formed at some column or is well-formed, and brings a group too many or doesn't
pub record IsDecided (meaning : Meaning) : Type 0 where
  pub column : (earlier : Lines) (line : List ℕ) → ((n : ℕ) × meaning.IsIllFormed earlier line n) ⊎ ((n : ℕ) → meaning.IsIllFormed earlier line n → ⊥)
  pub group : (earlier : Lines) (line : List ℕ) → meaning.IsOverfull earlier line ⊎ (meaning.IsOverfull earlier line → ⊥)

-- a text begins with another
abbrev pub BeginsWith : (whole front : List ℕ) → Type 0
BeginsWith whole front = (back : List ℕ) × (whole ≡ front ++ back)

-- lines determine what is written
pub record IsDetermined (meaning : Meaning) : Type 0 where
  pub one_column : HasOneColumn meaning
  -- lines without a fault give one text
  pub one_text : (lines : Lines) (a b : List ℕ) → IsFaultless meaning lines → meaning.Gives lines a → meaning.Gives lines b → a ≡ b
  -- it begins with what the first of them give
  pub grows : (first later : Lines) (text whole : List ℕ) → IsFaultless meaning (first ++ later) → meaning.Gives first text → meaning.Gives (first ++ later) whole → BeginsWith whole text
  -- an input without a fault has one text and status
  pub one_end : (lines : Lines) (a b : List ℕ) (s t : ℕ) → IsFaultless meaning lines → meaning.Ends lines a s → meaning.Ends lines b t → (a ≡ b) × (s ≡ t)
  -- its text begins with what its first lines give
  pub ends : (first later : Lines) (text whole : List ℕ) (status : ℕ) → IsFaultless meaning (first ++ later) → meaning.Gives first text → meaning.Ends (first ++ later) whole status → BeginsWith whole text

-- after lines without a fault it is known whether one more is ill-formed, and whether it brings a group too many; and
-- lines without a fault give some text, and are an input with some text and status
pub record IsComplete (meaning : Meaning) : Type 0 where
  pub column : (earlier : Lines) (line : List ℕ) → IsFaultless meaning earlier
      → ((n : ℕ) × meaning.IsIllFormed earlier line n) ⊎ ((n : ℕ) → meaning.IsIllFormed earlier line n → ⊥)
  pub group : (earlier : Lines) (line : List ℕ) → IsFaultless meaning earlier → meaning.IsOverfull earlier line ⊎ (meaning.IsOverfull earlier line → ⊥)
  pub gives : (lines : Lines) → IsFaultless meaning lines → (text : List ℕ) × meaning.Gives lines text
  pub ends : (lines : Lines) → IsFaultless meaning lines → (text : List ℕ) × (status : ℕ) × meaning.Ends lines text status

-- each input has an output
abbrev pub HasOutputs : Meaning → Type 0
HasOutputs meaning = (lines : Lines) → (text : List ℕ) × (status : ℕ) × IsOutput meaning lines text status

-- lines without a fault lack no text, and as an input no text and status
pub record IsNeverStuck (meaning : Meaning) : Type 0 where
  pub gives : (lines : Lines) → IsFaultless meaning lines → ((text : List ℕ) → meaning.Gives lines text → ⊥) → ⊥
  pub ends : (lines : Lines) → IsFaultless meaning lines → ((text : List ℕ) (status : ℕ) → meaning.Ends lines text status → ⊥) → ⊥

-- it can't be that an input has no output; no rule finds one
abbrev pub LacksNoOutput : Meaning → Type 0
LacksNoOutput meaning = (lines : Lines) → ((text : List ℕ) (status : ℕ) → IsOutput meaning lines text status → ⊥) → ⊥
