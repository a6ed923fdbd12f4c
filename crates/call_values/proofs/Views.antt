-- a call's parts are those of its address and of its body
use Rattle.call_values.specs.declared.calls.Call.{Call}
use Rattle.call_values.specs.declared.calls.Call.TheVariants.{Alert, Ack, Relay, RelayAck, AllShips, AreaCall, GroupCall, Individual, Service}
use Rattle.call_values.specs.Calls.{IsCall}
use Rattle.call_values.specs.Parts.{IsTo}
use Rattle.call_values.specs.Views.{address_of, body_of, IsBody}

pub is_call : (c : Call) → IsTo (address_of c) → IsBody (body_of c) → IsCall c
is_call (Alert casualty) h k = k
is_call (Ack from casualty) h k = k
is_call (Relay to from casualty ask) h k = (h, k.0, k.1)
is_call (RelayAck to from casualty) h k = (h, k.0, k.1)
is_call (AllShips category from first second f1 f2) h k = k
is_call (AreaCall area category from first second f1 f2) h k = (h, k.0, k.1)
is_call _ h k = (h, k.0, k.1)
