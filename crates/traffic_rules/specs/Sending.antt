-- Calls that an operator sends: this project's profile, with the ends of sequence of ITU-R M.493.
use Rattle.std.specs.Prelude.{ℕ, ◌==◌, ◌&&◌, not, Bool, true, false, Option, Some, None, is_none, List, [], ◌∷◌, if◌then◌else◌}
use Rattle.call_values.specs.declared.calls.Call.{Call}
use Rattle.call_values.specs.declared.calls.Call.TheVariants.{Alert, Ack, RelayAck, Service}
use Rattle.call_values.specs.declared.parts.Kind.TheVariants.{Position}
use Rattle.call_grammar.specs.Spelling.{end_of}
use Rattle.dsc_symbols.specs.declared.ends.TheConstants as ends
use Rattle.traffic_rules.specs.declared.acts.Act.{Act}
use Rattle.traffic_rules.specs.declared.acts.Act.TheVariants.{Send, Held}
use Rattle.traffic_rules.specs.declared.refusals.StationRefusal.{StationRefusal}
use Rattle.traffic_rules.specs.declared.refusals.StationRefusal.TheVariants.{NotSendable, Full}
use Rattle.traffic_rules.specs.Holding.{Places, first_free}
use Rattle.call_values.specs.Views.{sender_of}

-- a call asks for an acknowledgement
abbrev pub asks : Call → Bool
asks call = end_of call == ends.ACKNOWLEDGE_RQ

-- a call gives an acknowledgement
abbrev pub acknowledges : Call → Bool
acknowledges call = end_of call == ends.ACKNOWLEDGE_BQ

-- forms that a station sends by its own rules alone: distress alerts and their acknowledgements, acknowledgements of
-- relays, and answers to position requests
abbrev pub is_by_rule : Call → Bool
is_by_rule (Alert casualty) = true
is_by_rule (Ack from casualty) = true
is_by_rule (RelayAck to from casualty) = true
is_by_rule (Service to category from (Position position time)) = true
is_by_rule _ = false

-- an operator of this station may send a call
abbrev pub is_sendable : (own : ℕ) → Call → Bool
is_sendable own call = not (is_by_rule call) && ((sender_of call == own) && not (acknowledges call))

-- refused where a call must be held and no number is free
abbrev pub refused_full : Bool → Places → Option StationRefusal
refused_full must_hold places = if must_hold && is_none (first_free places) then Some Full else None

-- a call is held under the least free number
abbrev pub held_under_least : Option ℕ → List Act
held_under_least (Some number) = Held number ∷ []
held_under_least None = []

-- an operator's call is refused where it may not be sent, or else where it asks for an acknowledgement and no number is
-- free
abbrev pub send_refusal : (own : ℕ) → Places → Call → Option StationRefusal
send_refusal own places call = if is_sendable own call then refused_full (asks call) places else Some NotSendable

-- an operator's call is sent once, and held where it asks for an acknowledgement
abbrev pub send_due : Places → Call → List Act
send_due places call = Send call 1 ∷ (if asks call then held_under_least (first_free places) else [])
