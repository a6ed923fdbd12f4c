-- Histories of an exchange, and those of its two ends: this project's profile.
use Rattle.std.specs.Prelude.{ℕ, Option, Some, None, List, [], ◌∷◌, slice_get}
use Rattle.std.specs.Option.{option_map}
use Rattle.call_values.specs.declared.calls.Call.{Call}
use Rattle.traffic_rules.specs.declared.acts.Act.{Act}
use Rattle.traffic_rules.specs.declared.refusals.StationRefusal.{StationRefusal}
use Rattle.traffic_rules.specs.Histories.{Entry, History}
use Rattle.ship_station.specs.declared.events.ShipWhat.{ShipWhat}
use Rattle.ship_station.specs.declared.events.ShipWhat.TheVariants as at_ship
use Rattle.coast_station.specs.declared.events.CoastWhat.{CoastWhat}
use Rattle.coast_station.specs.declared.events.CoastWhat.TheVariants as at_coast
use Rattle.exchange.specs.declared.events.WorldEvent.{WorldEvent}
use Rattle.exchange.specs.declared.events.WorldEvent.TheVariants as world
use Rattle.exchange.specs.Sent.{sent_by}

-- what an event gives: what an end did, or its refusal, or that no call of a number was sent
pub data Given : Type 0 where
  did : List Act → Given
  refuses : StationRefusal → Given
  nothing : ℕ → Given

-- an event with what it gave
pub record WorldEntry : Type 0 where
  pub event : WorldEvent
  pub gave : Given

-- the events of an exchange, the newest first
abbrev pub WorldHistory : Type 0
WorldHistory = List WorldEntry

-- the histories of both ends
pub record Histories : Type 0 where
  pub ship : History ShipWhat
  pub coast : History CoastWhat

-- the moment of an event, and what happens at the ship: an event there, or a call that the coast station sent is heard
abbrev pub ship_what : (from_coast : List Call) → WorldEvent → Option (ℕ × ShipWhat)
ship_what from_coast (world.Ship e) = Some (e.at, e.what)
ship_what from_coast (world.ShipGets at number) = option_map (λ (call : Call). (at, at_ship.Heard call)) (slice_get from_coast number)
ship_what from_coast _ = None

-- the same at the coast station
abbrev pub coast_what : (from_ship : List Call) → WorldEvent → Option (ℕ × CoastWhat)
coast_what from_ship (world.Coast e) = Some (e.at, e.what)
coast_what from_ship (world.CoastGets at number) = option_map (λ (call : Call). (at, at_coast.Heard call)) (slice_get from_ship number)
coast_what from_ship _ = None

-- the entry of an end, where something happened there and it was accepted
abbrev pub entry_of : {What : Type 0} → Option (ℕ × What) → Given → Option (Entry What)
entry_of (Some happened) (did acts) = Some (record { at = happened.0; what = happened.1; acts = acts })
entry_of _ _ = None

-- a history, and the entry that follows it, if there is one
abbrev pub with_entry : {What : Type 0} → Option (Entry What) → History What → History What
with_entry (Some e) h = e ∷ h
with_entry None h = h

-- the entry of the ship's history that an event of the exchange gives, if it gives one
abbrev pub ship_entry : Histories → WorldEntry → Option (Entry ShipWhat)
ship_entry both e = entry_of (ship_what (sent_by both.coast) e.event) e.gave

-- the entry of the coast station's history that an event of the exchange gives, if it gives one
abbrev pub coast_entry : Histories → WorldEntry → Option (Entry CoastWhat)
coast_entry both e = entry_of (coast_what (sent_by both.ship) e.event) e.gave

-- the histories of both ends: a call that comes to an end is one that the other end had sent by then
abbrev pub histories_of : WorldHistory → Histories
histories_of [] = record { ship = []; coast = [] }
histories_of (e ∷ w) = record { ship = with_entry (ship_entry (histories_of w) e) (histories_of w).ship; coast = with_entry (coast_entry (histories_of w) e) (histories_of w).coast }
