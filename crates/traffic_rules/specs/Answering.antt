-- How an operator answers the calls that a station got: this project's profile, with the telecommands of ITU-R M.493.
use Rattle.std.specs.Prelude.{ℕ, Bool, true, false, Option, Some, None, List, [], ◌∷◌, if◌then◌else◌}
use Rattle.call_values.specs.declared.calls.Call.{Call}
use Rattle.call_values.specs.declared.calls.Call.TheVariants.{Relay, RelayAck, Individual}
use Rattle.call_values.specs.declared.choices.End.TheVariants.{Reply}
use Rattle.call_values.specs.declared.parts.To.TheVariants.{One}
use Rattle.dsc_symbols.specs.declared.notices.TheConstants as notices
use Rattle.dsc_symbols.specs.declared.telecommands.TheConstants as telecommands
use Rattle.traffic_rules.specs.declared.acts.Act.{Act}
use Rattle.traffic_rules.specs.declared.acts.Act.TheVariants.{Send}
use Rattle.traffic_rules.specs.declared.held.Holding.{Holding}
use Rattle.traffic_rules.specs.declared.refusals.StationRefusal.{StationRefusal}
use Rattle.traffic_rules.specs.declared.refusals.StationRefusal.TheVariants.{NoSuchCall}
use Rattle.traffic_rules.specs.Holding.{Places, place_of}
use Rattle.traffic_rules.specs.HeldTold.{is_sent}

-- the answer to a call: an individual call gets one back with the same category and message, and with the same
-- telecommands, or with 104 (unable to comply) and 100 (no reason given) where it is declined; a relay gets its
-- acknowledgement, or nothing where it is declined
abbrev pub reply_to : (own : ℕ) → (accepts : Bool) → Call → List Act
reply_to own true (Individual to category from first second message end) = Send (Individual from category own first second message Reply) 1 ∷ []
reply_to own false (Individual to category from first second message end) =
    Send (Individual from category own telecommands.UNABLE_TO_COMPLY notices.NO_REASON message Reply) 1 ∷ []
reply_to own true (Relay to from casualty ask) = Send (RelayAck (One from) own casualty) 1 ∷ []
reply_to own accepts _ = []

-- an answer is refused where no call that was got is held under the number
abbrev pub refused_unless_got : (number : ℕ) → Option Holding → Option StationRefusal
refused_unless_got number None = Some (NoSuchCall number)
refused_unless_got number (Some x) = if is_sent x.side then Some (NoSuchCall number) else None

-- the refusal to answer a number under which no call is held that was got
abbrev pub answer_refusal : Places → (number : ℕ) → Option StationRefusal
answer_refusal places number = refused_unless_got number (place_of places number)

-- the call that is held under a number is answered
abbrev pub reply_due_to : (own : ℕ) → (accepts : Bool) → Option Holding → List Act
reply_due_to own accepts None = []
reply_due_to own accepts (Some x) = reply_to own accepts x.call

-- the acts of answering or declining the call that is held under a number
abbrev pub answer_due : (own : ℕ) → Places → (number : ℕ) → (accepts : Bool) → List Act
answer_due own places number accepts = reply_due_to own accepts (place_of places number)
