-- What the lines of a command mean: this project's profile.
use Rattle.std.specs.Prelude.{◌≡◌, ℕ, List, []}
use Rattle.line_engine.specs.Lines.{Lines}

-- the meaning of a command, over the whole list of lines
pub record Meaning : Type 1 where
  -- after these lines this one is ill-formed at this column
  pub IsIllFormed : (earlier : Lines) → (line : List ℕ) → (column : ℕ) → Type 0
  -- after these lines this one, which is well-formed, brings a group too many
  pub IsOverfull : (earlier : Lines) → (line : List ℕ) → Type 0
  -- these lines, of which none has a fault, give this text before it is known whether others follow
  pub Gives : (lines : Lines) → (text : List ℕ) → Type 0
  -- an input of exactly these lines, of which none has a fault, has this text and status
  pub Ends : (lines : Lines) → (text : List ℕ) → (status : ℕ) → Type 0

-- nothing is given before the input's end
abbrev pub IsQuiet : Meaning → Type 0
IsQuiet meaning = (lines : Lines) (text : List ℕ) → meaning.Gives lines text → text ≡ []
