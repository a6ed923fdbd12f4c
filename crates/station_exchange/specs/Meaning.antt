-- What the lines of a file of an exchange mean: this project's profile.
use Rattle.std.specs.Prelude.{◌≡◌, ℕ, List, if◌then◌else◌}
use Rattle.line_grammar.specs.Columns.{IsColumn}
use Rattle.line_engine.specs.Lines.{Lines}
use Rattle.line_engine.specs.Meaning.{Meaning}
use Rattle.input_lines.specs.WorldLine.{IsWorldFileLine}
use Rattle.station_exchange.specs.Said.{Said, point_of, world_of, AreSaid}
use Rattle.station_exchange.specs.Output.{text_of, all_accepted}

-- after these lines this one is no line of its point, and this is its column there
pub record IsIllFormed (earlier : Lines) (text : List ℕ) (column : ℕ) : Type 0 where
  pub said : Said
  pub are_said : AreSaid said earlier
  pub is_column : IsColumn (IsWorldFileLine (point_of said)) text column

-- these lines give this text: that of the history of their exchange
pub record Exchanges (lines : Lines) (text : List ℕ) : Type 0 where
  pub said : Said
  pub are_said : AreSaid said lines
  pub text_is : text ≡ text_of (world_of said)

-- each event's lines are given as soon as its own line is read; the status is 0 where no step was refused and each
-- delivery was that of a call, and else 1
abbrev pub exchange_meaning : Meaning
exchange_meaning = record {
  IsIllFormed = IsIllFormed;
  IsOverfull = λ earlier text. ⊥;
  Gives = Exchanges;
  Ends = λ lines text status. (told : Exchanges lines text) × (status ≡ (if all_accepted (world_of told.said) then 0 else 1));
}
