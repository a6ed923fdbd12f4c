-- The events that event lines of an exchange give: this project's profile.
use Rattle.std.specs.Prelude.{ℕ}
use Rattle.traffic_lines.specs.declared.lines.ShipOwn.{ShipOwn}
use Rattle.traffic_lines.specs.declared.lines.CoastOwn.{CoastOwn}
use Rattle.traffic_lines.specs.declared.lines.Event.{Event}
use Rattle.traffic_lines.specs.declared.lines.Event.TheVariants.{Does, Comes}
use Rattle.traffic_lines.specs.declared.worlds.EndEvent.{EndEvent}
use Rattle.traffic_lines.specs.declared.worlds.EndEvent.TheVariants.{AtShip, AtCoast}
use Rattle.station_lines.specs.Events.{ship_deed, coast_deed}
use Rattle.exchange.specs.declared.events.WorldEvent.{WorldEvent}
use Rattle.exchange.specs.declared.events.WorldEvent.TheVariants as world

-- what happens at the ship: what it does, or the coast station's call of a number comes to it
abbrev pub event_at_ship : (base at : ℕ) → Event ShipOwn ℕ → WorldEvent
event_at_ship base at (Does deed) = world.Ship (record { at = at; what = ship_deed base at deed })
event_at_ship base at (Comes number) = world.ShipGets at number

-- what happens at the coast station: what it does, or the ship's call of a number comes to it
abbrev pub event_at_coast : (at : ℕ) → Event CoastOwn ℕ → WorldEvent
event_at_coast at (Does deed) = world.Coast (record { at = at; what = coast_deed deed })
event_at_coast at (Comes number) = world.CoastGets at number

-- the event of a line, where moments count from this second
abbrev pub event_of : (base : ℕ) → EndEvent → WorldEvent
event_of base (AtShip at what) = event_at_ship base at what
event_of base (AtCoast at what) = event_at_coast at what
