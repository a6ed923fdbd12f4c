-- What the lines of a traffic file mean, with their history: this project's profile.
use Rattle.std.specs.Prelude.{◌≡◌, ℕ, Bool, List, if◌then◌else◌}
use Rattle.line_engine.specs.Lines.{Lines}
use Rattle.line_engine.specs.Meaning.{Meaning}
use Rattle.traffic_rules.specs.Rules.{Legal}
use Rattle.ship_station.specs.ShipRules.{ship_rules}
use Rattle.coast_station.specs.CoastRules.{coast_rules}
use Rattle.traffic_replay.specs.Said.{Said, Kind, ship, coast, kind_of, identities_of, station_of}
use Rattle.traffic_replay.specs.Output.{history_of}
use Rattle.traffic_replay.specs.Meaning.{StationTells, Replays, replay_meaning}

-- the history of the station that lines name is legal
abbrev pub TellsLegally : (kind : Kind) (said : Said) (text : List ℕ) (is_well : Bool) → StationTells kind said text is_well → Type 0
TellsLegally ship said text is_well tells = Legal (ship_rules (identities_of said)) (history_of (ship_rules (identities_of said)) tells.happened)
TellsLegally (coast band) said text is_well tells = Legal (coast_rules (station_of band said)) (history_of (coast_rules (station_of band said)) tells.happened)

-- these lines give this text, and their history is legal
pub record ReplaysLegally (lines : Lines) (text : List ℕ) (is_well : Bool) : Type 0 where
  pub replays : Replays lines text is_well
  pub legal : TellsLegally (kind_of replays.said) replays.said text is_well replays.tells

-- what the lines of a traffic file mean, with legal histories
abbrev pub legal_replay : Meaning
legal_replay = record replay_meaning {
  Gives = λ lines text. (is_well : Bool) × ReplaysLegally lines text is_well;
  Ends = λ lines text status. (is_well : Bool) × ReplaysLegally lines text is_well × (status ≡ (if is_well then 0 else 1));
}
