-- What the handling of one event owes, where its moment isn't before the last one.
use Rattle.std.specs.Prelude.{◌≡◌, ℕ, ◌≤◌, Result, List}
use Rattle.traffic_rules.specs.declared.acts.Act.{Act}
use Rattle.traffic_rules.specs.declared.refusals.StationRefusal.{StationRefusal}
use Rattle.traffic_rules.specs.Histories.{History, last_moment}
use Rattle.traffic_rules.specs.Rules.{answer_to, continued}
use Rattle.ship_station.specs.declared.events.ShipWhat.{ShipWhat}
use Rattle.ship_station.specs.declared.ships.Ship.{Ship}
use Rattle.ship_station.specs.Events.{IsShipWhat}
use Rattle.ship_station.specs.ShipRules.{Identities, ship_rules}
use Rattle.ship_station.specs.StandsFor.{StandsFor}

-- the answer is that of every history that the ship stands for
abbrev pub AnswersEvent : Ship → (at : ℕ) → ShipWhat → Result (List Act) StationRefusal → Type 0
AnswersEvent old at what answer =
    (who : Identities) (h : History ShipWhat) → StandsFor old who h → last_moment h ≤ at → answer ≡ answer_to (ship_rules who) h at what

-- the ship then stands for every such history with the event put last, unless it is refused
abbrev pub GoesOn : Ship → (at : ℕ) → ShipWhat → Ship → Type 0
GoesOn old at what new =
    (who : Identities) (h : History ShipWhat) → StandsFor old who h → last_moment h ≤ at → IsShipWhat what
    → StandsFor new who (continued (ship_rules who) h at what)
