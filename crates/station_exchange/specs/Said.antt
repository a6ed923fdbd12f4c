-- What the lines of a file of an exchange say so far: this project's profile.
use Rattle.std.specs.Prelude.{◌≡◌, ℕ, Option, Some, None, List, [], ◌∷◌, ◌++◌}
use Rattle.call_values.specs.declared.choices.Band.TheVariants.{Mf}
use Rattle.coast_station.specs.CoastRules.{Station}
use Rattle.traffic_lines.specs.declared.worlds.ExchangePoint.{ExchangePoint}
use Rattle.traffic_lines.specs.declared.worlds.ExchangePoint.TheVariants as point
use Rattle.traffic_lines.specs.declared.worlds.WorldLine.{WorldLine}
use Rattle.traffic_lines.specs.declared.worlds.WorldLine.TheVariants.{Ship, Coast, Base, EndEvent}
use Rattle.input_lines.specs.WorldLine.{IsWorldFileLine}
use Rattle.line_engine.specs.Lines.{Lines}
use Rattle.exchange.specs.WorldHistories.{WorldHistory}
use Rattle.exchange.specs.WorldRules.{Parties, world_continued}
use Rattle.station_exchange.specs.Events.{event_of}

-- what lines said, the newest first; None where a line is empty or a comment
abbrev pub Said : Type 0
Said = List (Option WorldLine)

-- the point of the next line: the ship first, then the coast station, then the base, and then all events
abbrev pub point_of : Said → ExchangePoint
point_of [] = point.Ship
point_of (None ∷ earlier) = point_of earlier
point_of (Some (Ship mmsi) ∷ earlier) = point.Coast mmsi
point_of (Some (Coast mmsi band) ∷ earlier) = point.Base
point_of (Some (Base second) ∷ earlier) = point.Events
point_of (Some (EndEvent entry) ∷ earlier) = point.Events

-- the identity of the ship that a line names, and 0 where none does
abbrev pub ship_of : Said → ℕ
ship_of [] = 0
ship_of (Some (Ship mmsi) ∷ earlier) = mmsi
ship_of (line ∷ earlier) = ship_of earlier

-- the coast station that a line names, and that of the identity 0 where none does
abbrev pub coast_of : Said → Station
coast_of [] = record { own = 0; band = Mf }
coast_of (Some (Coast mmsi band) ∷ earlier) = record { own = mmsi; band = band }
coast_of (line ∷ earlier) = coast_of earlier

-- the second that moments count from, and 0 where no line names it
abbrev pub base_of : Said → ℕ
base_of [] = 0
base_of (Some (Base second) ∷ earlier) = second
base_of (line ∷ earlier) = base_of earlier

-- the two ends; the ship belongs to no group
abbrev pub parties_of : Said → Parties
parties_of said = record { ship = record { own = ship_of said; groups = [] }; coast = coast_of said }

-- the history of the exchange: the event of each event line, with what it gives after those before it
abbrev pub world_of : Said → WorldHistory
world_of [] = []
world_of (Some (EndEvent entry) ∷ earlier) = world_continued (parties_of earlier) (world_of earlier) (event_of (base_of earlier) entry)
world_of (line ∷ earlier) = world_of earlier

-- the lines say this, each of them at the point after the lines before it
abbrev pub AreSaid : Said → Lines → Type 0
AreSaid [] lines = lines ≡ []
AreSaid (line ∷ earlier) lines =
    (before : Lines) × (text : List ℕ) × (lines ≡ before ++ text ∷ []) × IsWorldFileLine (point_of earlier) line text × AreSaid earlier before
