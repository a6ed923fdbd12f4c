-- The events that lines give of themselves: this project's profile.
use Rattle.std.specs.Prelude.{ℕ, Option, Some, None}
use Rattle.call_values.specs.declared.positions.Fix.{Fix}
use Rattle.station_lines.specs.CivilTime.{second_of, hour_of, minute_of}
use Rattle.traffic_lines.specs.declared.lines.ShipOwn.{ShipOwn}
use Rattle.traffic_lines.specs.declared.lines.ShipOwn.TheVariants as own_ship
use Rattle.traffic_lines.specs.declared.lines.CoastOwn.{CoastOwn}
use Rattle.traffic_lines.specs.declared.lines.CoastOwn.TheVariants as own_coast
use Rattle.traffic_lines.specs.declared.lines.StationOwn.{StationOwn}
use Rattle.traffic_lines.specs.declared.lines.StationOwn.TheVariants as own
use Rattle.traffic_lines.specs.declared.lines.Deed.{Deed}
use Rattle.traffic_lines.specs.declared.lines.Deed.TheVariants.{Own, Tick, Send, Answer}
use Rattle.traffic_lines.specs.declared.lines.Hearing.{Hearing}
use Rattle.traffic_lines.specs.declared.lines.Hearing.TheVariants.{Hear, Heard}
use Rattle.traffic_lines.specs.declared.lines.Event.{Event}
use Rattle.traffic_lines.specs.declared.lines.Event.TheVariants.{Does, Comes}
use Rattle.ship_station.specs.declared.events.ShipWhat.{ShipWhat}
use Rattle.ship_station.specs.declared.events.ShipWhat.TheVariants as ship
use Rattle.coast_station.specs.declared.events.CoastWhat.{CoastWhat}
use Rattle.coast_station.specs.declared.events.CoastWhat.TheVariants as coast

-- an event that a line of a traffic file says
abbrev pub EventLine : Type 0
EventLine = Event StationOwn Hearing

-- the time of a position: the hour and the minute in UTC of its line's moment, and none where the position is unknown
abbrev pub time_of : (base at : ℕ) → Option Fix → Option (ℕ × ℕ)
time_of base at (Some fix) = Some (hour_of (second_of base at), minute_of (second_of base at))
time_of base at None = None

-- what a ship alone does by a line, as the ship's event
abbrev pub own_ship_event : (base at : ℕ) → ShipOwn → ShipWhat
own_ship_event base at (own_ship.Position place) = ship.Position place (time_of base at place)
own_ship_event base at (own_ship.Delay delay) = ship.Delay delay
own_ship_event base at (own_ship.Alert nature comm) = ship.Alert nature comm
own_ship_event base at own_ship.Cancel = ship.Cancel

-- what a ship does by a line, as the ship's event
abbrev pub ship_deed : (base at : ℕ) → Deed ShipOwn → ShipWhat
ship_deed base at (Own what) = own_ship_event base at what
ship_deed base at Tick = ship.Tick
ship_deed base at (Send call) = ship.Send call
ship_deed base at (Answer number accepts) = ship.Answer number accepts

-- the event at a coast station by what it does
abbrev pub coast_deed : Deed CoastOwn → CoastWhat
coast_deed (Own (own_coast.Accept mmsi delay)) = coast.Accept mmsi delay
coast_deed (Own (own_coast.Relay mmsi to ask)) = coast.Relay mmsi to ask
coast_deed Tick = coast.Tick
coast_deed (Send call) = coast.Send call
coast_deed (Answer number accepts) = coast.Answer number accepts

-- the event at a ship that a line gives by itself: a heard group gives none yet, and what a coast station alone does
-- gives none
abbrev pub ship_event : (base at : ℕ) → EventLine → Option ShipWhat
ship_event base at (Does (Own (own.Ship what))) = Some (own_ship_event base at what)
ship_event base at (Does (Own (own.Coast what))) = None
ship_event base at (Does Tick) = Some ship.Tick
ship_event base at (Does (Send call)) = Some (ship.Send call)
ship_event base at (Does (Answer number accepts)) = Some (ship.Answer number accepts)
ship_event base at (Comes (Hear call extra)) = Some (ship.Heard call)
ship_event base at (Comes (Heard group)) = None

-- the same at a coast station
abbrev pub coast_event : (base at : ℕ) → EventLine → Option CoastWhat
coast_event base at (Does (Own (own.Coast what))) = Some (coast_deed (Own what))
coast_event base at (Does (Own (own.Ship what))) = None
coast_event base at (Does Tick) = Some coast.Tick
coast_event base at (Does (Send call)) = Some (coast.Send call)
coast_event base at (Does (Answer number accepts)) = Some (coast.Answer number accepts)
coast_event base at (Comes (Hear call extra)) = Some (coast.Heard call)
coast_event base at (Comes (Heard group)) = None
