-- Events at a coast station: this project's profile; the delays, 1 to 2.75 minutes, are those of ITU-R M.541.
use Rattle.std.specs.Prelude.{ℕ, ◌==◌, Option, Some, None, IfSome, if◌then◌else◌}
use Rattle.call_values.specs.declared.calls.Casualty.{Casualty}
use Rattle.call_values.specs.declared.calls.Call.TheVariants as call
use Rattle.call_values.specs.Delays.{IsCoastDelay}
use Rattle.call_values.specs.Identity.{IsMmsi}
use Rattle.call_values.specs.Parts.{IsTo}
use Rattle.traffic_rules.specs.Occurrences.{Occurrence, ticks, answers, hears, other}
use Rattle.coast_station.specs.declared.events.CoastWhat.{CoastWhat}
use Rattle.coast_station.specs.declared.events.CoastWhat.TheVariants.{Accept, Tick, Relay, Send, Answer, Heard}

-- each part of an event is in its range; calls that are sent or heard may be any
abbrev pub IsCoastWhat : CoastWhat → Type 0
IsCoastWhat (Accept mmsi delay) = IsMmsi mmsi × IfSome delay IsCoastDelay
IsCoastWhat Tick = Unit {0}
IsCoastWhat (Relay mmsi to ask) = IsMmsi mmsi × IsTo to
IsCoastWhat (Send call) = Unit {0}
IsCoastWhat (Answer number accepts) = Unit {0}
IsCoastWhat (Heard call) = Unit {0}

-- an event as it concerns held calls
abbrev pub coast_occurs : CoastWhat → Occurrence
coast_occurs (Accept mmsi delay) = other
coast_occurs Tick = ticks
coast_occurs (Relay mmsi to ask) = other
coast_occurs (Send call) = other
coast_occurs (Answer number accepts) = answers number
coast_occurs (Heard call) = hears call

-- another station's distress alert that is heard at an event
abbrev pub alert_in : (own : ℕ) → CoastWhat → Option Casualty
alert_in own (Heard (call.Alert casualty)) = if casualty.mmsi == own then None else Some casualty
alert_in own _ = None

-- the delay with which an event accepts the casualty of an identity. On VHF there may be none: the casualty then ends
-- with the event
abbrev pub delay_for : (mmsi : ℕ) → CoastWhat → Option ℕ
delay_for mmsi (Accept accepted delay) = if accepted == mmsi then delay else None
delay_for mmsi _ = None
