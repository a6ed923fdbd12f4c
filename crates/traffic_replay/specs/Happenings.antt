-- What happens at the event lines of a traffic file: this project's profile.
use Rattle.std.specs.Prelude.{◌≡◌, ℕ, Option, Some, Result, Ok, Err, List, [], ◌∷◌}
use Rattle.call_values.specs.declared.calls.Call.{Call}
use Rattle.slot_join.specs.declared.joined.Joined.{Joined}
use Rattle.slot_join.specs.declared.joined.Joined.TheVariants.{Reported, Missing, Differ, Outside, Check}
use Rattle.slot_join.specs.Answer.{IsAnswer}
use Rattle.station_lines.specs.Events.{EventLine}
use Rattle.traffic_lines.specs.declared.{lines.Event.TheVariants.Comes, lines.Hearing.TheVariants.Heard, lines.TrafficLine.TheVariants.Event}
use Rattle.ship_station.specs.declared.events.ShipWhat.{ShipWhat}
use Rattle.ship_station.specs.declared.events.ShipWhat.TheVariants as ship
use Rattle.coast_station.specs.declared.events.CoastWhat.{CoastWhat}
use Rattle.coast_station.specs.declared.events.CoastWhat.TheVariants as coast
use Rattle.station_lines.specs.Events.{ship_event, coast_event}
use Rattle.input_lines.specs.PointLine.{traffic}
use Rattle.traffic_replay.specs.declared.outcomes.Unreported.{Unreported}
use Rattle.traffic_replay.specs.Said.{Said, base_of}
use Rattle.traffic_replay.specs.HeardGroups.{facts_since_heard}

-- what comes of the answer to a heard group: its call is heard; or the group isn't reported, and that is no event
abbrev pub heard_as : {What : Type 0} → (Call → What) → (group : ℕ) → Joined → Result What Unreported
heard_as heard group (Reported call extra) = Ok (heard call)
heard_as heard group (Missing n) = Err (record { group = group; answer = Missing n })
heard_as heard group (Differ n least greatest) = Err (record { group = group; answer = Differ n least greatest })
heard_as heard group (Outside n symbol) = Err (record { group = group; answer = Outside n symbol })
heard_as heard group (Check n want got) = Err (record { group = group; answer = Check n want got })

-- how a kind of station takes event lines: the events that they give by themselves, and a call that is heard
pub record Taking (What : Type 0) : Type 0 where
  pub event : (base at : ℕ) → EventLine → Option What
  pub heard : Call → What

-- how a ship takes the events of lines and heard calls
abbrev pub taking_ship : Taking ShipWhat
taking_ship = record { event = ship_event; heard = ship.Heard }

-- how a coast station takes the events of lines and heard calls
abbrev pub taking_coast : Taking CoastWhat
taking_coast = record { event = coast_event; heard = coast.Heard }

-- what an event line gives after these lines: an event at the station, or a group that isn't reported
abbrev pub ComesOf : {What : Type 0} → Taking What → Said → (at : ℕ) → EventLine → Result What Unreported → Type 0
ComesOf taking earlier at (Comes (Heard group)) outcome =
    (answer : Joined) × IsAnswer (facts_since_heard group earlier) answer × (outcome ≡ heard_as taking.heard group answer)
ComesOf {What} taking earlier at line outcome = (event : What) × (taking.event (base_of earlier) at line ≡ Some event) × (outcome ≡ Ok event)

-- what happened at a moment: an event at the station, or a group that isn't reported
pub record Happening (What : Type 0) : Type 0 where
  pub at : ℕ
  pub outcome : Result What Unreported

-- what came of each event line, the newest first
abbrev pub AreHappenings : {What : Type 0} → Taking What → Said → List (Happening What) → Type 0
AreHappenings taking [] happened = happened ≡ []
AreHappenings taking (traffic (Event at what) ∷ earlier) [] = ⊥
AreHappenings taking (traffic (Event at what) ∷ earlier) (h ∷ happened) =
    (h.at ≡ at) × ComesOf taking earlier at what h.outcome × AreHappenings taking earlier happened
AreHappenings taking (line ∷ earlier) happened = AreHappenings taking earlier happened
