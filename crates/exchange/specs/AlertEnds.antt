-- How the ship's distress alert ends in an exchange: the end by an acknowledgement is that of ITU-R M.541; all else is
-- this project's profile.
use Rattle.std.specs.Prelude.{◌≡◌, ℕ, ◌&&◌, Bool, true, false, Some, is_some, IsTrue, List, ◌∷◌, ◌++◌, slice_get}
use Rattle.std.specs.List.{list_any}
use Rattle.call_values.specs.declared.calls.Call.{Call}
use Rattle.call_values.specs.declared.calls.Call.TheVariants as call
use Rattle.call_values.specs.declared.calls.Casualty.{Casualty}
use Rattle.traffic_rules.specs.declared.acts.Act.{Act}
use Rattle.traffic_rules.specs.declared.acts.Act.TheVariants as act
use Rattle.ship_station.specs.declared.events.ShipWhat.{ShipWhat}
use Rattle.ship_station.specs.declared.events.ShipWhat.TheVariants.{Cancel}
use Rattle.ship_station.specs.Events.{alert_of}
use Rattle.coast_station.specs.Acknowledged.{accepts}
use Rattle.exchange.specs.declared.events.WorldEvent.{WorldEvent}
use Rattle.exchange.specs.declared.events.WorldEvent.TheVariants as world
use Rattle.exchange.specs.Sent.{sent_by}
use Rattle.exchange.specs.WorldHistories.{Given, did, refuses, nothing, WorldEntry, WorldHistory, histories_of}

-- an event happens at the ship
abbrev pub is_at_ship : WorldEvent → Bool
is_at_ship (world.Ship e) = true
is_at_ship (world.ShipGets at number) = true
is_at_ship _ = false

-- an event happens at the coast station
abbrev pub is_at_coast : WorldEvent → Bool
is_at_coast (world.Coast e) = true
is_at_coast (world.CoastGets at number) = true
is_at_coast _ = false

-- an event was accepted
abbrev pub is_accepted : Given → Bool
is_accepted (did acts) = true
is_accepted _ = false

-- one of the acts that an event gave is such
abbrev pub gives : (Act → Bool) → Given → Bool
gives is_such (did acts) = list_any is_such acts
gives is_such _ = false

-- the ship does such at an entry
abbrev pub ship_does : (Act → Bool) → WorldEntry → Bool
ship_does is_such e = is_at_ship e.event && gives is_such e.gave

-- an event would begin a distress alert of the ship
abbrev pub is_alert_event : WorldEvent → Bool
is_alert_event (world.Ship e) = is_some (alert_of e.what)
is_alert_event _ = false

-- an entry begins a distress alert of the ship
abbrev pub begins_alert : WorldEntry → Bool
begins_alert e = is_alert_event e.event && is_accepted e.gave

-- an event would accept a casualty at the coast station
abbrev pub is_accept_event : (mmsi : ℕ) → WorldEvent → Bool
is_accept_event mmsi (world.Coast e) = accepts mmsi e.what
is_accept_event mmsi _ = false

-- an entry accepts a casualty at the coast station
abbrev pub accepts_casualty : (mmsi : ℕ) → WorldEntry → Bool
accepts_casualty mmsi e = is_accept_event mmsi e.event && is_accepted e.gave

-- the coast station sends a call at an entry
pub record IsSentByCoast (sent : Call) (e : WorldEntry) : Type 0 where
  pub there : is_at_coast e.event ≡ true
  pub first : List Act
  pub times : ℕ
  pub last : List Act
  pub acts : e.gave ≡ did (first ++ act.Send sent times ∷ last)

-- at an entry after a history the coast station hears a call that the ship sent
pub record IsGotByCoast (heard : Call) (e : WorldEntry) (before : WorldHistory) : Type 0 where
  pub at : ℕ
  pub number : ℕ
  pub event : e.event ≡ world.CoastGets at number
  pub sent : slice_get (sent_by (histories_of before).ship) number ≡ Some heard
  pub accepted : is_accepted e.gave ≡ true

-- the coast station sent an acknowledgement of an alert which the ship had sent, which had come to the coast station
-- before, and whose identity was accepted there after that, at the latest at the entry that acknowledges it
pub record AcknowledgesSentAlert (acknowledgement : Call) (casualty : Casualty) (earlier : WorldHistory) : Type 0 where
  pub later : WorldHistory
  pub sent : WorldEntry
  pub between : WorldHistory
  pub got : WorldEntry
  pub before : WorldHistory
  pub order : earlier ≡ later ++ sent ∷ (between ++ got ∷ before)
  pub acknowledged : IsSentByCoast acknowledgement sent
  pub heard : IsGotByCoast (call.Alert casualty) got before
  pub accepted : IsTrue (list_any (accepts_casualty casualty.mmsi) (sent ∷ between))

-- a delivery to the ship is that of an acknowledgement which the coast station sent of the ship's own alert, and which
-- goes back to this alert
pub record IsAcknowledgement (own number : ℕ) (earlier : WorldHistory) : Type 0 where
  pub from : ℕ
  pub casualty : Casualty
  pub delivered : slice_get (sent_by (histories_of earlier).coast) number ≡ Some (call.Ack from casualty)
  pub names : casualty.mmsi ≡ own
  pub goes_back : AcknowledgesSentAlert (call.Ack from casualty) casualty earlier

-- an event at the ship is a cancel
abbrev pub IsCancel : ShipWhat → Type 0
IsCancel Cancel = Unit {0}
IsCancel _ = ⊥

-- an event at which the ship's alert may end after a history: a cancel, or the delivery of such an acknowledgement
abbrev pub MayEnd : (own : ℕ) → WorldEvent → WorldHistory → Type 0
MayEnd own (world.Ship e) earlier = IsCancel e.what
MayEnd own (world.ShipGets at number) earlier = IsAcknowledgement own number earlier
MayEnd own _ earlier = ⊥
