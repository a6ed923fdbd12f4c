-- What the lines of a file of an exchange mean, with the history of their exchange: this project's profile.
use Rattle.std.specs.Prelude.{ℕ, List}
use Rattle.line_engine.specs.Lines.{Lines}
use Rattle.line_engine.specs.Meaning.{Meaning}
use Rattle.exchange.specs.WorldRules.{IsLegal}
use Rattle.station_exchange.specs.Said.{parties_of, world_of}
use Rattle.station_exchange.specs.Meaning.{Exchanges, exchange_meaning}

-- these lines give this text, and the history of their exchange is legal
pub record GivesLegally (lines : Lines) (text : List ℕ) : Type 0 where
  pub gives : Exchanges lines text
  pub legal : IsLegal (parties_of gives.said) (world_of gives.said)

-- an input of these lines has this text and status, and the history of their exchange is legal
pub record EndsLegally (lines : Lines) (text : List ℕ) (status : ℕ) : Type 0 where
  pub ends : exchange_meaning.Ends lines text status
  pub legal : IsLegal (parties_of ends.0.said) (world_of ends.0.said)

-- what the lines of an exchange mean, with legal histories
abbrev pub legal_exchange : Meaning
legal_exchange = record exchange_meaning { Gives = GivesLegally; Ends = EndsLegally }
