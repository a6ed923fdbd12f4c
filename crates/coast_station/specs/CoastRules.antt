-- Rules of a coast station: when it acknowledges an alert is in Accepting; all else, 16 open casualties at most among
-- it, is this project's profile.
use Rattle.std.specs.Prelude.{ℕ, ◌==◌, ◌&&◌, not, Bool, Option, Some, None, is_some, is_none, List, [], ◌∷◌, ◌++◌, length, if◌then◌else◌}
use Rattle.call_values.specs.declared.calls.Call.{Call}
use Rattle.call_values.specs.declared.calls.Call.TheVariants as call
use Rattle.call_values.specs.declared.choices.Band.{Band}
use Rattle.call_values.specs.declared.parts.To.{To}
use Rattle.traffic_rules.specs.declared.acts.Act.{Act}
use Rattle.traffic_rules.specs.declared.acts.Act.TheVariants as act
use Rattle.traffic_rules.specs.declared.refusals.StationRefusal.{StationRefusal}
use Rattle.traffic_rules.specs.declared.refusals.StationRefusal.TheVariants.{NoCasualty, Full}
use Rattle.area_rules.specs.Addressing.{is_for_coast}
use Rattle.traffic_rules.specs.Histories.{History}
use Rattle.traffic_rules.specs.Holding.{Places}
use Rattle.traffic_rules.specs.Rules.{Rules}
use Rattle.call_values.specs.Views.{sender_of}
use Rattle.traffic_rules.specs.Answering.{answer_refusal, answer_due}
use Rattle.traffic_rules.specs.Hearing.{heard_refusal, heard_due}
use Rattle.traffic_rules.specs.HeldTold.{all_held}
use Rattle.traffic_rules.specs.Repeating.{repeats}
use Rattle.traffic_rules.specs.Sending.{send_refusal, send_due, refused_full}
use Rattle.coast_station.specs.declared.events.CoastWhat.{CoastWhat}
use Rattle.coast_station.specs.declared.events.CoastWhat.TheVariants.{Accept, Tick, Relay, Send, Answer, Heard}
use Rattle.coast_station.specs.declared.casualties.OpenCasualty.{OpenCasualty}
use Rattle.coast_station.specs.declared.casualties.TheConstants.{MOST_CASUALTIES}
use Rattle.coast_station.specs.Accepting.{find_casualty, accept_refusal, accept_due, acknowledgements_due}
use Rattle.coast_station.specs.Casualties.{open_casualties}
use Rattle.coast_station.specs.Events.{IsCoastWhat, coast_occurs}

-- a coast station: its identity, and the band in which it works
pub record Station : Type 0 where
  pub own : ℕ
  pub band : Band

-- a relay is refused where no casualty of the identity is open, or else where it asks for an acknowledgement and no
-- number is free
abbrev pub relay_refusal : (mmsi : ℕ) → (ask : Bool) → List OpenCasualty → Places → Option StationRefusal
relay_refusal mmsi ask casualties places =
    if is_none (find_casualty mmsi casualties) then Some (NoCasualty mmsi) else refused_full ask places

-- the casualty's alert is relayed, as a call of the operator is sent; the casualty stays open
abbrev pub relay_due_of : (own : ℕ) → To → (ask : Bool) → Places → Option OpenCasualty → List Act
relay_due_of own to ask places None = []
relay_due_of own to ask places (Some casualty) = send_due places (call.Relay to own casualty.alert ask)

-- the acts of relaying a ship's alert, if a casualty of it is open
abbrev pub relay_due : (own : ℕ) → (mmsi : ℕ) → To → (ask : Bool) → List OpenCasualty → Places → List Act
relay_due own mmsi to ask casualties places = relay_due_of own to ask places (find_casualty mmsi casualties)

-- a heard call is for the station: another station sent it, and it reaches this one
abbrev pub is_for : (own : ℕ) → Call → Bool
is_for own call = not (sender_of call == own) && is_for_coast call own

-- a heard alert is refused where it begins a casualty and 16 are open; another call as at each station
abbrev pub refusal_at_call : List OpenCasualty → Places → Call → Option StationRefusal
refusal_at_call casualties places (call.Alert casualty) =
    if is_none (find_casualty casualty.mmsi casualties) && (length casualties == MOST_CASUALTIES) then Some Full else None
refusal_at_call casualties places (call.Ack from casualty) = None
refusal_at_call casualties places heard = heard_refusal places heard

-- what is due at a heard call: at an alert the operator is informed of distress; another station's acknowledgement ends
-- the casualty that it names, where that one is open; at another call what is due at each station, but a position
-- request is shown
abbrev pub at_call : (own : ℕ) → List OpenCasualty → Places → Call → List Act
at_call own casualties places (call.Alert casualty) = act.Distress casualty ∷ []
at_call own casualties places (call.Ack from casualty) =
    if is_some (find_casualty casualty.mmsi casualties) then act.CasualtyClosed casualty.mmsi ∷ [] else []
at_call own casualties places heard = heard_due own None places heard

-- why an event is refused, by the casualties that are open and the calls that are held
abbrev pub refusal_by : Station → List OpenCasualty → Places → CoastWhat → Option StationRefusal
refusal_by who casualties places (Accept mmsi delay) = accept_refusal who.band mmsi delay casualties
refusal_by who casualties places Tick = None
refusal_by who casualties places (Relay mmsi to ask) = relay_refusal mmsi ask casualties places
refusal_by who casualties places (Send call) = send_refusal who.own places call
refusal_by who casualties places (Answer number accepts) = answer_refusal places number
refusal_by who casualties places (Heard heard) = if is_for who.own heard then refusal_at_call casualties places heard else None

-- what is due at an event; at a call that is not for the station nothing
abbrev pub due_by : Station → List OpenCasualty → Places → (at : ℕ) → CoastWhat → List Act
due_by who casualties places at (Accept mmsi delay) = accept_due who.own who.band at mmsi delay casualties
due_by who casualties places at Tick = acknowledgements_due who.own at casualties ++ repeats at 1 places
due_by who casualties places at (Relay mmsi to ask) = relay_due who.own mmsi to ask casualties places
due_by who casualties places at (Send call) = send_due places call
due_by who casualties places at (Answer number accepts) = answer_due who.own places number accepts
due_by who casualties places at (Heard heard) = if is_for who.own heard then at_call who.own casualties places heard else []

-- the calls that the station holds
abbrev pub held : History CoastWhat → Places
held = all_held coast_occurs

-- why a coast station refuses an event after a history
abbrev pub refusal_at : Station → History CoastWhat → CoastWhat → Option StationRefusal
refusal_at who h what = refusal_by who (open_casualties who.own h) (held h) what

-- the acts that are due at an event after a history
abbrev pub due_at : Station → History CoastWhat → (at : ℕ) → CoastWhat → List Act
due_at who h at what = due_by who (open_casualties who.own h) (held h) at what

-- the rules of a coast station
abbrev pub coast_rules : Station → Rules CoastWhat
coast_rules who = record { IsEvent = IsCoastWhat; refusal = refusal_at who; due = due_at who }
