-- What a step of one end owes.
use Rattle.std.specs.Prelude.{◌≡◌, ℕ, Option, List, [], slice_get}
use Rattle.std.specs.Option.{option_map}
use Rattle.call_values.specs.declared.calls.Call.{Call}
use Rattle.traffic_rules.specs.Histories.{History}
use Rattle.exchange.specs.Sent.{calls_of}
use Rattle.exchange.specs.WorldHistories.{Given, did, refuses, nothing, entry_of, with_entry}
use Rattle.exchange.specs.StandsFor.{IsStill}

-- the calls that an event sends
abbrev pub calls_given : Given → List Call
calls_given (did acts) = calls_of acts
calls_given _ = []

-- a call of a number that comes to an end at a moment, where it was sent
abbrev pub delivery : {What : Type 0} → (heard : Call → What) → (at number : ℕ) → List Call → Option (ℕ × What)
delivery heard at number calls = option_map (λ (call : Call). (at, heard call)) (slice_get calls number)

-- the history of an end after what happened gave this
abbrev pub after_event : {What : Type 0} → Option (ℕ × What) → Given → History What → History What
after_event happened gave h = with_entry (entry_of happened gave) h

-- an end and its list of sent calls are as they were where what happened was refused, or was no delivery
abbrev pub IsStillWhere : {Station : Type 0} → Given → (old new : Station) → (sent sent_then : List Call) → Type 0
IsStillWhere gave old new sent sent_then = IsStill gave → (new ≡ old) × (sent_then ≡ sent)
