-- What the lines of a traffic file say so far: this project's profile.
use Rattle.std.specs.Prelude.{◌≡◌, ℕ, ◌+◌, List, [], ◌∷◌, ◌++◌, length}
use Rattle.call_values.specs.declared.choices.Band.{Band}
use Rattle.line_engine.specs.Lines.{Lines}
use Rattle.traffic_lines.specs.declared.lines.Point.{Point}
use Rattle.traffic_lines.specs.declared.lines.Point.TheVariants as point
use Rattle.traffic_lines.specs.declared.lines.TrafficLine.TheVariants.{Ship, Coast, Base, Group, Event}
use Rattle.input_lines.specs.ReceiverLine.{nothing, reception, evidence}
use Rattle.input_lines.specs.PointLine.{PointLine, joined, traffic, IsPointLine}
use Rattle.ship_station.specs.ShipRules.{Identities}
use Rattle.coast_station.specs.CoastRules.{Station}

-- what lines said, the newest first
abbrev pub Said : Type 0
Said = List PointLine

-- a station is a ship, or a coast station that works in a band
pub data Kind : Type 0 where
  ship : Kind
  coast : Band → Kind

-- the kind of the station that a line names; a ship's where none does
abbrev pub kind_of : Said → Kind
kind_of [] = ship
kind_of (traffic (Ship mmsi) ∷ earlier) = ship
kind_of (traffic (Coast mmsi band) ∷ earlier) = coast band
kind_of (line ∷ earlier) = kind_of earlier

-- the identity of the station that a line names, and 0 where none does
abbrev pub own_of : Said → ℕ
own_of [] = 0
own_of (traffic (Ship mmsi) ∷ earlier) = mmsi
own_of (traffic (Coast mmsi band) ∷ earlier) = mmsi
own_of (line ∷ earlier) = own_of earlier

-- the second that moments count from, and 0 where no line names it
abbrev pub base_of : Said → ℕ
base_of [] = 0
base_of (traffic (Base second) ∷ earlier) = second
base_of (line ∷ earlier) = base_of earlier

-- the ship's groups, in the order of their lines
abbrev pub groups_of : Said → List ℕ
groups_of [] = []
groups_of (traffic (Group mmsi) ∷ earlier) = groups_of earlier ++ mmsi ∷ []
groups_of (line ∷ earlier) = groups_of earlier

-- the identities that a ship answers to
abbrev pub identities_of : Said → Identities
identities_of said = record { own = own_of said; groups = groups_of said }

-- the coast station of a band
abbrev pub station_of : Band → Said → Station
station_of band said = record { own = own_of said; band = band }

-- the point of the line after the base: a ship's groups come next
abbrev pub behind_base : Kind → Point
behind_base ship = point.Groups 0
behind_base (coast band) = point.Coast

-- the point of a line after one of events or receivers
abbrev pub among_events : Kind → Point
among_events ship = point.Ship
among_events (coast band) = point.Coast

-- the point of the next line: the station first, then the base, then a ship's groups, and then all others; empty lines
-- and comments may come anywhere
abbrev pub point_of : Said → Point
point_of [] = point.Station
point_of (joined nothing ∷ earlier) = point_of earlier
point_of (joined (reception group e) ∷ earlier) = among_events (kind_of earlier)
point_of (joined (evidence group pairs) ∷ earlier) = among_events (kind_of earlier)
point_of (traffic (Ship mmsi) ∷ earlier) = point.Base
point_of (traffic (Coast mmsi band) ∷ earlier) = point.Base
point_of (traffic (Base second) ∷ earlier) = behind_base (kind_of earlier)
point_of (traffic (Group mmsi) ∷ earlier) = point.Groups (length (groups_of earlier) + 1)
point_of (traffic (Event at what) ∷ earlier) = among_events (kind_of earlier)

-- the lines say this, each of them at the point after the lines before it
abbrev pub AreSaid : Said → Lines → Type 0
AreSaid [] lines = lines ≡ []
AreSaid (line ∷ earlier) lines = (before : Lines) × (text : List ℕ) × (lines ≡ before ++ text ∷ []) × IsPointLine (point_of earlier) line text × AreSaid earlier before
