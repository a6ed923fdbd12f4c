-- Rules of a ship: the attempts of its alert, and when they are repeated, are those of ITU-R M.541, distress alert
-- attempts; all else is this project's profile.
use Rattle.std.specs.Prelude.{ℕ, ◌==◌, ◌&&◌, Bool, Option, Some, None, is_some, is_none, List, [], ◌∷◌, ◌++◌, length, not, if◌then◌else◌}
use Rattle.call_values.specs.declared.calls.Call.{Call}
use Rattle.call_values.specs.declared.calls.Call.TheVariants as call
use Rattle.traffic_rules.specs.declared.acts.Act.{Act}
use Rattle.traffic_rules.specs.declared.acts.Act.TheVariants.{Distress, AlertEnded}
use Rattle.traffic_rules.specs.declared.acts.Act.TheVariants as act
use Rattle.traffic_rules.specs.declared.refusals.StationRefusal.{StationRefusal}
use Rattle.traffic_rules.specs.declared.refusals.StationRefusal.TheVariants.{AlertActive, NoAlert, Full, NeedsDelay}
use Rattle.area_rules.specs.Addressing.{is_for_ship}
use Rattle.traffic_rules.specs.Histories.{History}
use Rattle.traffic_rules.specs.Holding.{Places}
use Rattle.traffic_rules.specs.Moments.{has_passed}
use Rattle.traffic_rules.specs.Rules.{Rules}
use Rattle.call_values.specs.Views.{sender_of}
use Rattle.traffic_rules.specs.HeldTold.{all_held}
use Rattle.traffic_rules.specs.Sending.{send_refusal, send_due}
use Rattle.traffic_rules.specs.Answering.{answer_refusal, answer_due}
use Rattle.traffic_rules.specs.Repeating.{repeats}
use Rattle.traffic_rules.specs.Hearing.{Whereabouts, heard_refusal, heard_due}
use Rattle.ship_station.specs.declared.events.ShipWhat.{ShipWhat}
use Rattle.ship_station.specs.declared.events.ShipWhat.TheVariants.{Position, Delay, Alert, Cancel, Tick, Send, Answer, Heard}
use Rattle.ship_station.specs.declared.alerts.OwnAlert.{OwnAlert}
use Rattle.ship_station.specs.Events.{IsShipWhat, ship_occurs}
use Rattle.ship_station.specs.Past.{kept, open_alert, last_attempt, delays_left}

-- the identities that a ship answers to: its own, and those of its groups
pub record Identities : Type 0 where
  pub own : ℕ
  pub groups : List ℕ

-- an attempt of an alert: the ship's distress alert with a position and a time, sent 5 times in a row
abbrev pub attempt : (own : ℕ) → Whereabouts → OwnAlert → Act
attempt own place alert =
    act.Send (call.Alert (record { mmsi = own; nature = alert.nature; position = place.0; time = place.1; comm = alert.comm })) 5

-- a refusal where a test holds
abbrev pub refused_where : Bool → StationRefusal → Option StationRefusal
refused_where test refusal = if test then Some refusal else None

-- a heard call is for the ship: another station sent it, and it reaches the ship
abbrev pub is_for : Identities → History ShipWhat → Call → Bool
is_for who h call = not (sender_of call == who.own) && is_for_ship call who.own who.groups (kept h).0

-- the calls that the ship holds
abbrev pub held : History ShipWhat → Places
held = all_held ship_occurs

-- a delay is refused where 16 are held; an alert where one is on, or else where no delay is held; a cancel where no
-- alert is on; a tick where an alert is on and no delay is held; an operator's call, an answer and a heard call for the
-- ship by the rules of traffic
abbrev pub refusal_at : Identities → History ShipWhat → ShipWhat → Option StationRefusal
refusal_at who h (Position position time) = None
refusal_at who h (Delay delay) = refused_where (length (delays_left h) == 16) Full
refusal_at who h (Alert nature comm) =
    if is_some (open_alert h) then Some AlertActive else refused_where (length (delays_left h) == 0) NeedsDelay
refusal_at who h Cancel = refused_where (is_none (open_alert h)) NoAlert
refusal_at who h Tick = refused_where (is_some (open_alert h) && (length (delays_left h) == 0)) NeedsDelay
refusal_at who h (Send call) = send_refusal who.own (held h) call
refusal_at who h (Answer number accepts) = answer_refusal (held h) number
refusal_at who h (Heard call) = if is_for who h call then heard_refusal (held h) call else None

-- at a tick an attempt is due, if an alert is on and at least the first delay has passed since the last attempt
abbrev pub at_tick : (own : ℕ) → Whereabouts → Option OwnAlert → (delays : List ℕ) → (last at : ℕ) → List Act
at_tick own place (Some alert) (delay ∷ delays) last at = if has_passed delay last at then attempt own place alert ∷ [] else []
at_tick own place _ _ last at = []

-- what is due at a call for the ship: at an alert the operator is informed of distress; an acknowledgement that names
-- the ship ends the alert that is on; other calls by the rules of traffic, and a position request is answered with what
-- is kept
abbrev pub at_call : (own : ℕ) → Whereabouts → (is_on : Bool) → Places → Call → List Act
at_call own place is_on places (call.Alert casualty) = Distress casualty ∷ []
at_call own place is_on places (call.Ack from casualty) = if is_on && (casualty.mmsi == own) then AlertEnded ∷ [] else []
at_call own place is_on places heard = heard_due own (Some place) places heard

-- what is due: at an alert its first attempt with what is kept; at a cancel, that the alert ended; at a tick the
-- alert's attempt and then the held calls; at a heard call for the ship what `at_call` gives; at an operator's call and
-- an answer what the rules of traffic give
abbrev pub due_at : Identities → History ShipWhat → (at : ℕ) → ShipWhat → List Act
due_at who h at (Position position time) = []
due_at who h at (Delay delay) = []
due_at who h at (Alert nature comm) = attempt who.own (kept h) (record { nature = nature; comm = comm }) ∷ []
due_at who h at Cancel = AlertEnded ∷ []
due_at who h at Tick = at_tick who.own (kept h) (open_alert h) (delays_left h) (last_attempt h) at ++ repeats at 1 (held h)
due_at who h at (Send call) = send_due (held h) call
due_at who h at (Answer number accepts) = answer_due who.own (held h) number accepts
due_at who h at (Heard call) = if is_for who h call then at_call who.own (kept h) (is_some (open_alert h)) (held h) call else []

-- the rules of a ship
abbrev pub ship_rules : Identities → Rules ShipWhat
ship_rules who = record { IsEvent = IsShipWhat; refusal = refusal_at who; due = due_at who }
