-- What each event of an exchange gives, and the histories that follow this: this project's profile.
use Rattle.std.specs.Prelude.{◌≡◌, ℕ, Option, Some, None, Result, Ok, Err, List, [], ◌∷◌, slice_get}
use Rattle.call_values.specs.declared.calls.Call.{Call}
use Rattle.traffic_rules.specs.declared.acts.Act.{Act}
use Rattle.traffic_rules.specs.declared.refusals.StationRefusal.{StationRefusal}
use Rattle.traffic_rules.specs.Histories.{History}
use Rattle.traffic_rules.specs.Rules.{Rules, Legal, answer_to}
use Rattle.ship_station.specs.declared.events.ShipWhat.{ShipWhat}
use Rattle.ship_station.specs.declared.events.ShipWhat.TheVariants as at_ship
use Rattle.ship_station.specs.Events.{IsShipWhat}
use Rattle.ship_station.specs.ShipRules.{Identities, ship_rules}
use Rattle.coast_station.specs.declared.events.CoastWhat.{CoastWhat}
use Rattle.coast_station.specs.declared.events.CoastWhat.TheVariants as at_coast
use Rattle.coast_station.specs.Events.{IsCoastWhat}
use Rattle.coast_station.specs.CoastRules.{Station, coast_rules}
use Rattle.exchange.specs.declared.events.WorldEvent.{WorldEvent}
use Rattle.exchange.specs.declared.events.WorldEvent.TheVariants as world
use Rattle.exchange.specs.Sent.{sent_by}
use Rattle.exchange.specs.WorldHistories.{Given, did, refuses, nothing, WorldHistory, Histories, histories_of}

-- the two ends of an exchange
pub record Parties : Type 0 where
  pub ship : Identities
  pub coast : Station

-- an event of the ship's own: any but the hearing of a call
abbrev pub IsOwnOfShip : ShipWhat → Type 0
IsOwnOfShip (at_ship.Heard call) = ⊥
IsOwnOfShip _ = Unit {0}

-- an event of the coast station's own: any but the hearing of a call
abbrev pub IsOwnOfCoast : CoastWhat → Type 0
IsOwnOfCoast (at_coast.Heard call) = ⊥
IsOwnOfCoast _ = Unit {0}

-- calls are heard as deliveries alone
abbrev pub IsFromOutside : WorldEvent → Type 0
IsFromOutside (world.Ship e) = IsOwnOfShip e.what
IsFromOutside (world.Coast e) = IsOwnOfCoast e.what
IsFromOutside _ = Unit {0}

-- the parts of an end's own event are in their ranges
abbrev pub IsWorldEvent : WorldEvent → Type 0
IsWorldEvent (world.Ship e) = IsShipWhat e.what
IsWorldEvent (world.Coast e) = IsCoastWhat e.what
IsWorldEvent _ = Unit {0}

-- what an end's answer gives
abbrev pub given_by : Result (List Act) StationRefusal → Given
given_by (Ok acts) = did acts
given_by (Err refusal) = refuses refusal

-- what a delivery gives: nothing where no call of its number was sent, and else what the end answers to hearing it
abbrev pub given_at : {What : Type 0} → Rules What → History What → (at number : ℕ) → (heard : Call → What) → Option Call → Given
given_at rules h at number heard None = nothing number
given_at rules h at number heard (Some call) = given_by (answer_to rules h at (heard call))

-- what an event gives after the histories of the ends
abbrev pub answer_behind : Parties → Histories → WorldEvent → Given
answer_behind who both (world.Ship e) = given_by (answer_to (ship_rules who.ship) both.ship e.at e.what)
answer_behind who both (world.Coast e) = given_by (answer_to (coast_rules who.coast) both.coast e.at e.what)
answer_behind who both (world.ShipGets at number) =
    given_at (ship_rules who.ship) both.ship at number at_ship.Heard (slice_get (sent_by both.coast) number)
answer_behind who both (world.CoastGets at number) =
    given_at (coast_rules who.coast) both.coast at number at_coast.Heard (slice_get (sent_by both.ship) number)

-- a history with an event more, and what it gives
abbrev pub world_continued : Parties → WorldHistory → WorldEvent → WorldHistory
world_continued who w event = record { event = event; gave = answer_behind who (histories_of w) event } ∷ w

-- each event is from outside, and gave what it gives after those before it
abbrev pub AreAnswered : Parties → WorldHistory → Type 0
AreAnswered who [] = Unit {0}
AreAnswered who (e ∷ w) = IsFromOutside e.event × (e.gave ≡ answer_behind who (histories_of w) e.event) × AreAnswered who w

-- a history of an exchange is legal: both ends' histories are, and each event gave what it gives
pub record IsLegal (who : Parties) (w : WorldHistory) : Type 0 where
  pub ship : Legal (ship_rules who.ship) (histories_of w).ship
  pub coast : Legal (coast_rules who.coast) (histories_of w).coast
  pub answered : AreAnswered who w
