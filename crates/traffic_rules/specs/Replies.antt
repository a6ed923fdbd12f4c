-- Which call answers a sent one: this project's profile, over the forms of ITU-R M.493.
use Rattle.std.specs.Prelude.{ℕ, ◌==◌, Bool, true, false}
use Rattle.call_values.specs.declared.calls.Call.{Call}
use Rattle.call_values.specs.declared.calls.Call.TheVariants.{Relay, RelayAck, Individual, Service}
use Rattle.call_values.specs.declared.choices.End.TheVariants.{Reply}
use Rattle.call_values.specs.declared.parts.Kind.TheVariants.{Test, AskPosition, Position}

-- a call is a relay acknowledgement that names this casualty
abbrev pub is_relay_ack : (casualty : ℕ) → Call → Bool
is_relay_ack casualty (RelayAck to from named) = named.mmsi == casualty
is_relay_ack casualty _ = false

-- a call is an individual call of this station that gives an acknowledgement
abbrev pub is_individual_reply : (station : ℕ) → Call → Bool
is_individual_reply station (Individual to category from first second message Reply) = from == station
is_individual_reply station _ = false

-- a call is a test reply of this station
abbrev pub is_test_reply : (station : ℕ) → Call → Bool
is_test_reply station (Service to category from (Test true)) = from == station
is_test_reply station _ = false

-- a call is a position answer of this station
abbrev pub is_position_answer : (station : ℕ) → Call → Bool
is_position_answer station (Service to category from (Position position time)) = from == station
is_position_answer station _ = false

-- a heard call answers a sent one: a relay is answered by the acknowledgement of a relay of the same casualty; an
-- individual call, a test or a position request by the reply of the station that it was sent to
abbrev pub answers : (sent heard : Call) → Bool
answers (Relay to from casualty ask) heard = is_relay_ack casualty.mmsi heard
answers (Individual to category from first second message end) heard = is_individual_reply to heard
answers (Service to category from (Test false)) heard = is_test_reply to heard
answers (Service to category from AskPosition) heard = is_position_answer to heard
answers _ heard = false
