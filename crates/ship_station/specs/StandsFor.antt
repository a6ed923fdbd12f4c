-- The histories that a ship stands for: this project's profile.
use Rattle.std.specs.Prelude.{◌≡◌}
use Rattle.traffic_rules.specs.Histories.{History, last_moment}
use Rattle.traffic_rules.specs.Rules.{Legal}
use Rattle.ship_station.specs.declared.events.ShipWhat.{ShipWhat}
use Rattle.ship_station.specs.declared.ships.Ship.{Ship}
use Rattle.ship_station.specs.Past.{kept, open_alert, last_attempt, delays_left}
use Rattle.ship_station.specs.ShipRules.{Identities, held, ship_rules}

-- each part that a ship keeps is what a history says
pub record Keeps (ship : Ship) (who : Identities) (h : History ShipWhat) : Type 0 where
  pub own : ship.own ≡ who.own
  pub groups : ship.groups ≡ who.groups
  pub last : ship.last ≡ last_moment h
  pub position : ship.position ≡ (kept h).0
  pub time : ship.time ≡ (kept h).1
  pub alert : ship.alert ≡ open_alert h
  pub attempted : ship.attempted_at ≡ last_attempt h
  pub delays : ship.delays.items ≡ delays_left h
  pub held : ship.held ≡ held h

-- a ship of these identities stands for a history: it is legal, and the ship keeps what it says
abbrev pub StandsFor : Ship → Identities → History ShipWhat → Type 0
StandsFor ship who h = Legal (ship_rules who) h × Keeps ship who h
