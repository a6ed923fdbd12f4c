-- What the lines of a traffic file mean: this project's profile.
use Rattle.std.specs.Prelude.{◌≡◌, ℕ, Bool, List, if◌then◌else◌}
use Rattle.line_grammar.specs.Columns.{IsColumn}
use Rattle.line_engine.specs.Lines.{Lines}
use Rattle.line_engine.specs.Meaning.{Meaning}
use Rattle.traffic_rules.specs.Rules.{Rules}
use Rattle.ship_station.specs.ShipRules.{ship_rules}
use Rattle.coast_station.specs.CoastRules.{coast_rules}
use Rattle.input_lines.specs.PointLine.{IsPointLine}
use Rattle.traffic_replay.specs.Said.{Said, Kind, ship, coast, kind_of, identities_of, station_of, point_of, AreSaid}
use Rattle.traffic_replay.specs.HeardGroups.{IsOverfull}
use Rattle.traffic_replay.specs.Happenings.{Taking, taking_ship, taking_coast, Happening, AreHappenings}
use Rattle.traffic_replay.specs.Output.{text_of, all_accepted}

-- after these lines this one is no line of its point, and this is its column there
pub record IsIllFormed (earlier : Lines) (text : List ℕ) (column : ℕ) : Type 0 where
  pub said : Said
  pub are_said : AreSaid said earlier
  pub is_column : IsColumn (IsPointLine (point_of said)) text column

-- what was said gives this text by the rules of a station; all is well where no event was refused and each heard group
-- was reported
pub record Tells {What : Type 0} (rules : Rules What) (taking : Taking What) (said : Said) (text : List ℕ) (is_well : Bool) : Type 0 where
  pub happened : List (Happening What)
  pub are_happenings : AreHappenings taking said happened
  pub text_is : text ≡ text_of rules happened
  pub well_is : is_well ≡ all_accepted rules happened

-- the same for the station that lines name
abbrev pub StationTells : Kind → Said → (text : List ℕ) → (is_well : Bool) → Type 0
StationTells ship said text is_well = Tells (ship_rules (identities_of said)) taking_ship said text is_well
StationTells (coast band) said text is_well = Tells (coast_rules (station_of band said)) taking_coast said text is_well

-- these lines give this text
pub record Replays (lines : Lines) (text : List ℕ) (is_well : Bool) : Type 0 where
  pub said : Said
  pub are_said : AreSaid said lines
  pub tells : StationTells (kind_of said) said text is_well

-- each event's lines are given as soon as its own line is read; the status is 0 where all is well, and else 1
abbrev pub replay_meaning : Meaning
replay_meaning = record {
  IsIllFormed = IsIllFormed;
  IsOverfull = IsOverfull;
  Gives = λ lines text. (is_well : Bool) × Replays lines text is_well;
  Ends = λ lines text status. (is_well : Bool) × Replays lines text is_well × (status ≡ (if is_well then 0 else 1));
}
