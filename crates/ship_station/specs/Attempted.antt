-- How a ship sends its distress alert: ITU-R M.541, distress alert attempts.
use Rattle.std.specs.Prelude.{◌≡◌, ℕ, Some}
use Rattle.traffic_rules.specs.declared.acts.Act.{Act}
use Rattle.traffic_rules.specs.Histories.{History}
use Rattle.ship_station.specs.declared.events.ShipWhat.{ShipWhat}
use Rattle.ship_station.specs.declared.events.ShipWhat.TheVariants.{Alert, Tick}
use Rattle.ship_station.specs.declared.alerts.OwnAlert.{OwnAlert}
use Rattle.ship_station.specs.Past.{kept, open_alert}
use Rattle.ship_station.specs.ShipRules.{attempt}

-- an event begins this alert, or it is a tick and the alert is on
abbrev pub IsTried : History ShipWhat → ShipWhat → OwnAlert → Type 0
IsTried h (Alert nature comm) alert = alert ≡ record { nature = nature; comm = comm }
IsTried h Tick alert = open_alert h ≡ Some alert
IsTried h _ alert = ⊥

-- an act at an event after a history is an attempt of such an alert: the ship's own, with the position and the time
-- that are kept, sent 5 times in a row
pub record IsAttempted (own : ℕ) (h : History ShipWhat) (what : ShipWhat) (sent : Act) : Type 0 where
  pub alert : OwnAlert
  pub tried : IsTried h what alert
  pub act : sent ≡ attempt own (kept h) alert
