-- What a coast station answers to an event and keeps after it, by what it keeps before.
use Rattle.std.specs.Prelude.{ℕ, Bool, Option, Some, None, is_some, Result, List, if◌then◌else◌}
use Rattle.call_values.specs.declared.calls.Call.{Call}
use Rattle.call_values.specs.declared.calls.Call.TheVariants as call
use Rattle.call_values.specs.declared.choices.Band.{Band}
use Rattle.call_values.specs.declared.parts.To.{To}
use Rattle.traffic_rules.specs.declared.acts.Act.{Act}
use Rattle.traffic_rules.specs.declared.refusals.StationRefusal.{StationRefusal}
use Rattle.traffic_rules.specs.Holding.{Places}
use Rattle.traffic_rules.specs.Rules.{refusal_or}
use Rattle.traffic_rules.specs.After.{after_sending, after_answering, after_tick, after_hearing}
use Rattle.coast_station.specs.declared.events.CoastWhat.{CoastWhat}
use Rattle.coast_station.specs.declared.events.CoastWhat.TheVariants.{Accept, Tick, Relay, Send, Answer, Heard}
use Rattle.coast_station.specs.declared.casualties.OpenCasualty.{OpenCasualty}
use Rattle.coast_station.specs.declared.coasts.Coast.{Coast}
use Rattle.coast_station.specs.Accepting.{find_casualty, is_due_at_once}
use Rattle.coast_station.specs.CoastRules.{Station, is_for, refusal_by, due_by}
use Rattle.coast_station.specs.inside.Left.{without, replaced, not_due, noted}

-- the casualties that are open after one is accepted
abbrev pub after_accept_of : Band → (at : ℕ) → (delay : Option ℕ) → Option OpenCasualty → List OpenCasualty → List OpenCasualty
after_accept_of band at delay None casualties = casualties
after_accept_of band at delay (Some x) casualties =
    if is_some x.delay then casualties
    else (if is_due_at_once band at delay x then without x.alert.mmsi casualties else replaced x.alert.mmsi (record x { delay = delay }) casualties)

-- after a call that is for the station
abbrev pub after_call : (at : ℕ) → Call → List OpenCasualty → List OpenCasualty
after_call at (call.Alert casualty) casualties = noted casualty at casualties
after_call at (call.Ack from casualty) casualties =
    if is_some (find_casualty casualty.mmsi casualties) then without casualty.mmsi casualties else casualties
after_call at heard casualties = casualties

-- after an event
abbrev pub open_after : Station → (at : ℕ) → CoastWhat → List OpenCasualty → List OpenCasualty
open_after who at (Accept mmsi delay) casualties = after_accept_of who.band at delay (find_casualty mmsi casualties) casualties
open_after who at Tick casualties = not_due at casualties
open_after who at (Heard heard) casualties = if is_for who.own heard then after_call at heard casualties else casualties
open_after who at _ casualties = casualties

-- the calls that are held after a casualty's alert is relayed
abbrev pub held_after_relay : (own at : ℕ) → To → (ask : Bool) → Option OpenCasualty → Places → Places
held_after_relay own at to ask None places = places
held_after_relay own at to ask (Some x) places = after_sending places (call.Relay to own x.alert ask) at

-- after a call that is for the station
abbrev pub held_after_call : (at : ℕ) → Call → Places → Places
held_after_call at (call.Alert casualty) places = places
held_after_call at (call.Ack from casualty) places = places
held_after_call at heard places = after_hearing places heard at

-- after an event
abbrev pub held_after : Station → (at : ℕ) → CoastWhat → List OpenCasualty → Places → Places
held_after who at (Accept mmsi delay) casualties places = places
held_after who at Tick casualties places = after_tick places at
held_after who at (Relay mmsi to ask) casualties places = held_after_relay who.own at to ask (find_casualty mmsi casualties) places
held_after who at (Send call) casualties places = after_sending places call at
held_after who at (Answer number accepts) casualties places = after_answering places number
held_after who at (Heard heard) casualties places = if is_for who.own heard then held_after_call at heard places else places

-- whose station this is
abbrev pub station_of : Coast → Station
station_of coast = record { own = coast.own; band = coast.band }

-- the answer of a station by what it keeps
abbrev pub answer_by : Coast → (at : ℕ) → CoastWhat → Result (List Act) StationRefusal
answer_by coast at what =
    refusal_or (refusal_by (station_of coast) coast.casualties coast.held what) (due_by (station_of coast) coast.casualties coast.held at what)

-- what it keeps after an event that it accepts, but for the moment
abbrev pub afterwards : Coast → (at : ℕ) → CoastWhat → Coast
afterwards coast at what = record coast {
  casualties = open_after (station_of coast) at what coast.casualties;
  held = held_after (station_of coast) at what coast.casualties coast.held;
}
