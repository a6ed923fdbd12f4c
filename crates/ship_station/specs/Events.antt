-- Events at a ship: this project's profile; the delays between attempts of an alert, 3.5 to 4.5 minutes, are those of
-- ITU-R M.541.
use Rattle.std.specs.Prelude.{◌≡◌, ℕ, Bool, Option, Some, None, is_some}
use Rattle.call_values.specs.declared.calls.Call.TheVariants.{Ack}
use Rattle.call_values.specs.Clock.{IsHourMinute}
use Rattle.call_values.specs.Delays.{IsAlertDelay}
use Rattle.call_values.specs.Positions.{IsPosition}
use Rattle.dsc_symbols.specs.Natures.{IsNature}
use Rattle.dsc_symbols.specs.Telecommands.{IsComm}
use Rattle.traffic_rules.specs.Histories.{Entry}
use Rattle.traffic_rules.specs.Occurrences.{Occurrence, ticks, answers, hears, other}
use Rattle.traffic_rules.specs.Hearing.{Whereabouts}
use Rattle.ship_station.specs.declared.events.ShipWhat.{ShipWhat}
use Rattle.ship_station.specs.declared.events.ShipWhat.TheVariants.{Position, Delay, Alert, Cancel, Tick, Send, Answer, Heard}
use Rattle.ship_station.specs.declared.alerts.OwnAlert.{OwnAlert}

-- each part of an event is in its range; calls that are sent or heard may be any
abbrev pub IsShipWhat : ShipWhat → Type 0
IsShipWhat (Position position time) = IsPosition position × IsHourMinute time
IsShipWhat (Delay delay) = IsAlertDelay delay
IsShipWhat (Alert nature comm) = IsNature nature × IsComm comm
IsShipWhat Cancel = Unit {0}
IsShipWhat Tick = Unit {0}
IsShipWhat (Send call) = Unit {0}
IsShipWhat (Answer number accepts) = Unit {0}
IsShipWhat (Heard call) = Unit {0}

-- what an event is to the calls that the ship holds
abbrev pub ship_occurs : ShipWhat → Occurrence
ship_occurs Tick = ticks
ship_occurs (Answer number accepts) = answers number
ship_occurs (Heard call) = hears call
ship_occurs _ = other

-- the position and the time that an event gives
abbrev pub whereabouts_of : ShipWhat → Option Whereabouts
whereabouts_of (Position position time) = Some (position, time)
whereabouts_of _ = None

-- the delay that an event gives
abbrev pub delay_of : ShipWhat → Option ℕ
delay_of (Delay delay) = Some delay
delay_of _ = None

-- the distress alert that an event begins
abbrev pub alert_of : ShipWhat → Option OwnAlert
alert_of (Alert nature comm) = Some (record { nature = nature; comm = comm })
alert_of _ = None

-- an entry's event begins a distress alert
abbrev pub begins_alert : Entry ShipWhat → Bool
begins_alert e = is_some (alert_of e.what)

-- an event at which a ship's alert may end: a cancel, or a heard distress acknowledgement that names the ship
abbrev pub MayEndAlert : (own : ℕ) → ShipWhat → Type 0
MayEndAlert own Cancel = Unit {0}
MayEndAlert own (Heard (Ack from casualty)) = casualty.mmsi ≡ own
MayEndAlert own _ = ⊥
