-- the parts of the events that lines give are in their ranges
use Rattle.std.proofs.Common.{◌≡◌, ℕ, Option, Some, None, IfSome, subst, arith}
use Rattle.std.proofs.lemmas.Option.{none-some, same_Some}
use Rattle.call_values.specs.declared.positions.Fix.{Fix}
use Rattle.call_values.specs.Clock.{IsHourMinute}
use Rattle.call_values.specs.Delays.{IsCoastDelay}
use Rattle.ship_station.specs.declared.events.ShipWhat.{ShipWhat}
use Rattle.ship_station.specs.declared.events.ShipWhat.TheVariants as ship
use Rattle.ship_station.specs.Events.{IsShipWhat}
use Rattle.coast_station.specs.declared.events.CoastWhat.{CoastWhat}
use Rattle.coast_station.specs.declared.events.CoastWhat.TheVariants as coast
use Rattle.coast_station.specs.Events.{IsCoastWhat}
use Rattle.traffic_lines.specs.declared.lines.ShipOwn.{ShipOwn}
use Rattle.traffic_lines.specs.declared.lines.ShipOwn.TheVariants as own_ship
use Rattle.traffic_lines.specs.declared.lines.CoastOwn.{CoastOwn}
use Rattle.traffic_lines.specs.declared.lines.CoastOwn.TheVariants as own_coast
use Rattle.traffic_lines.specs.declared.lines.StationOwn.TheVariants as own
use Rattle.traffic_lines.specs.declared.lines.Deed.{Deed}
use Rattle.traffic_lines.specs.declared.lines.Deed.TheVariants.{Own, Tick, Send, Answer}
use Rattle.traffic_lines.specs.declared.lines.Hearing.TheVariants.{Hear, Heard}
use Rattle.traffic_lines.specs.declared.lines.Event.TheVariants.{Does, Comes}
use Rattle.traffic_lines.specs.Events.{IsPerhapsDelay, IsShipOwn, IsCoastOwn, IsStationOwn, IsHearing, IsDeed, IsEvent}
use Rattle.station_lines.specs.Events.{EventLine, time_of, own_ship_event, ship_deed, coast_deed, ship_event, coast_event}

time_lawful : (base at : ℕ) (place : Option Fix) → IsHourMinute (time_of base at place)
time_lawful base at (Some fix) = (omega arith, omega arith)
time_lawful base at None = tt

delay_lawful : (delay : Option ℕ) → IsPerhapsDelay delay → IfSome delay IsCoastDelay
delay_lawful None is = tt
delay_lawful (Some ms) is = is

own_ship_lawful : (base at : ℕ) (own : ShipOwn) → IsShipOwn own → IsShipWhat (own_ship_event base at own)
own_ship_lawful base at (own_ship.Position place) is = (is, time_lawful base at place)
own_ship_lawful base at _ is = is

-- those by what an end does
pub ship_deed_lawful : (base at : ℕ) (deed : Deed ShipOwn) → IsDeed IsShipOwn deed → IsShipWhat (ship_deed base at deed)
ship_deed_lawful base at (Own what) is = own_ship_lawful base at what is
ship_deed_lawful base at _ is = tt

pub coast_deed_lawful : (deed : Deed CoastOwn) → IsDeed IsCoastOwn deed → IsCoastWhat (coast_deed deed)
coast_deed_lawful (Own (own_coast.Accept mmsi delay)) is = (is.0, delay_lawful delay is.1)
coast_deed_lawful (Own (own_coast.Relay mmsi to ask)) is = is
coast_deed_lawful _ is = tt

-- those of the event that a line gives of itself
pub ship_event_lawful : (base at : ℕ) (line : EventLine) (what : ShipWhat) → IsEvent IsStationOwn IsHearing line → ship_event base at line ≡ Some what → IsShipWhat what
ship_event_lawful base at (Does (Own (own.Ship w))) what is same = subst IsShipWhat (same_Some (own_ship_event base at w) what same) (own_ship_lawful base at w is)
ship_event_lawful base at (Does (Own (own.Coast w))) what is same = absurd (none-some what same)
ship_event_lawful base at (Does Tick) what is same = subst IsShipWhat (same_Some ship.Tick what same) tt
ship_event_lawful base at (Does (Send call)) what is same = subst IsShipWhat (same_Some (ship.Send call) what same) tt
ship_event_lawful base at (Does (Answer number accepts)) what is same = subst IsShipWhat (same_Some (ship.Answer number accepts) what same) tt
ship_event_lawful base at (Comes (Hear call extra)) what is same = subst IsShipWhat (same_Some (ship.Heard call) what same) tt
ship_event_lawful base at (Comes (Heard group)) what is same = absurd (none-some what same)

pub coast_event_lawful : (base at : ℕ) (line : EventLine) (what : CoastWhat) → IsEvent IsStationOwn IsHearing line → coast_event base at line ≡ Some what → IsCoastWhat what
coast_event_lawful base at (Does (Own (own.Coast w))) what is same = subst IsCoastWhat (same_Some (coast_deed (Own w)) what same) (coast_deed_lawful (Own w) is)
coast_event_lawful base at (Does (Own (own.Ship w))) what is same = absurd (none-some what same)
coast_event_lawful base at (Does Tick) what is same = subst IsCoastWhat (same_Some coast.Tick what same) tt
coast_event_lawful base at (Does (Send call)) what is same = subst IsCoastWhat (same_Some (coast.Send call) what same) tt
coast_event_lawful base at (Does (Answer number accepts)) what is same = subst IsCoastWhat (same_Some (coast.Answer number accepts) what same) tt
coast_event_lawful base at (Comes (Hear call extra)) what is same = subst IsCoastWhat (same_Some (coast.Heard call) what same) tt
coast_event_lawful base at (Comes (Heard group)) what is same = absurd (none-some what same)
