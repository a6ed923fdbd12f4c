-- What a command answers to one line, and which lines it stands for: this project's profile.
use Rattle.std.specs.Prelude.{◌≡◌, ℕ, ◌<◌, List, ◌++◌, length}
use Rattle.line_engine.specs.declared.command.Refusal.{Refusal}
use Rattle.line_engine.specs.declared.command.Refusal.TheVariants.{Column, TooManyGroups, Memory}
use Rattle.line_engine.specs.Lines.{Lines}
use Rattle.line_engine.specs.Meaning.{Meaning}

-- after these lines this one is neither ill-formed nor brings a group too many
pub record IsTakenBehind (meaning : Meaning) (earlier : Lines) (line : List ℕ) : Type 0 where
  pub well_formed : (n : ℕ) → meaning.IsIllFormed earlier line n → ⊥
  pub not_overfull : meaning.IsOverfull earlier line → ⊥

-- after these lines this one is refused for this reason; want of memory may come at any line
abbrev pub IsRefusedBehind : Meaning → (earlier : Lines) → (line : List ℕ) → Refusal → Type 0
IsRefusedBehind meaning earlier line (Column n) = meaning.IsIllFormed earlier line n
IsRefusedBehind meaning earlier line TooManyGroups = ((n : ℕ) → meaning.IsIllFormed earlier line n → ⊥) × meaning.IsOverfull earlier line
IsRefusedBehind meaning earlier line Memory = Unit {0}

-- a command that refuses a line says nothing of it
abbrev pub KeepsText : Refusal → (before after : List ℕ) → Type 0
KeepsText (Column n) before after = after ≡ before
KeepsText TooManyGroups before after = after ≡ before
KeepsText Memory before after = Unit {0}

-- a command stands for fewer lines than this, and what is pending is the end of their text
pub record StandsBelow {Command : Type 0} (stands_for : Command → Lines → List ℕ → Type 0) (command : Command) (pending : List ℕ) (bound : ℕ) : Type 0 where
  pub lines : Lines
  pub written : List ℕ
  pub stands : stands_for command lines (written ++ pending)
  pub few : length lines < bound
