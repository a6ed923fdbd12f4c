-- A call by who it is addressed to and by what it says: ITU-R M.493, composition of the calls.
use Rattle.std.specs.Prelude.{ℕ, true, false}
use Rattle.call_values.specs.declared.calls.Call.{Call}
use Rattle.call_values.specs.declared.calls.Call.TheVariants.{Alert, Ack, Relay, RelayAck, AllShips, AreaCall, GroupCall, Individual, Service}
use Rattle.call_values.specs.declared.bodies.Body.{Body}
use Rattle.call_values.specs.declared.bodies.Body.TheVariants as body
use Rattle.call_values.specs.declared.parts.To.{To}
use Rattle.call_values.specs.declared.parts.To.TheVariants as to
use Rattle.call_values.specs.declared.parts.Message.TheVariants.{Fields}
use Rattle.call_values.specs.Identity.{IsMmsi}
use Rattle.call_values.specs.Calls.{IsCasualty, IsRequest}
use Rattle.call_values.specs.Parts.{IsKind}

-- who a call is addressed to; a distress alert and its acknowledgement are for all ships
abbrev pub address_of : Call → To
address_of (Relay to from casualty ask) = to
address_of (RelayAck to from casualty) = to
address_of (AreaCall area category from first second f1 f2) = to.Area area
address_of (GroupCall group category from first second f1 f2) = to.Group group
address_of (Individual station category from first second message end) = to.One station
address_of (Service station category from kind) = to.One station
address_of _ = to.All

-- what a call says; a relay of an alert, and the acknowledgement of a relay, acknowledge no alert
abbrev pub body_of : Call → Body
body_of (Alert casualty) = body.Alert casualty
body_of (Ack from casualty) = body.Distress from true casualty
body_of (Relay to from casualty ask) = body.Distress from false casualty
body_of (RelayAck to from casualty) = body.Distress from false casualty
body_of (AllShips category from first second f1 f2) = body.Request category from first second (Fields f1 f2)
body_of (AreaCall area category from first second f1 f2) = body.Request category from first second (Fields f1 f2)
body_of (GroupCall group category from first second f1 f2) = body.Request category from first second (Fields f1 f2)
body_of (Individual to category from first second message end) = body.Request category from first second message
body_of (Service to category from kind) = body.Service category from kind

-- the station that says this; of a distress alert it is the casualty
abbrev pub sender_in : Body → ℕ
sender_in (body.Alert casualty) = casualty.mmsi
sender_in (body.Distress from acknowledges casualty) = from
sender_in (body.Request category from first second message) = from
sender_in (body.Service category from kind) = from

-- the station that sent a call
abbrev pub sender_of : Call → ℕ
sender_of call = sender_in (body_of call)

-- each part of what a call says is in its range
abbrev pub IsBody : Body → Type 0
IsBody (body.Alert casualty) = IsCasualty casualty
IsBody (body.Distress from acknowledges casualty) = IsMmsi from × IsCasualty casualty
IsBody (body.Request category from first second message) = IsMmsi from × IsRequest first second message
IsBody (body.Service category from kind) = IsMmsi from × IsKind kind
