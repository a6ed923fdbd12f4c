-- What a station does by the rules of traffic alone: this project's profile.
use Rattle.std.specs.Prelude.{◌≡◌, ℕ, ◌==◌, ◌||◌, Bool, true, false, Option, Some, None, List, [], ◌∷◌}
use Rattle.std.specs.List.{AllByRecursion}
use Rattle.call_values.specs.declared.calls.Call.{Call}
use Rattle.call_values.specs.declared.calls.Call.TheVariants.{RelayAck, Individual, Service}
use Rattle.call_values.specs.declared.choices.End.TheVariants.{Reply}
use Rattle.call_values.specs.declared.parts.Kind.TheVariants.{Test, Position}
use Rattle.traffic_rules.specs.declared.acts.Act.{Act}
use Rattle.traffic_rules.specs.declared.acts.Act.TheVariants.{Send, AlertEnded, CasualtyClosed}
use Rattle.traffic_rules.specs.declared.held.Holding.{Holding}
use Rattle.traffic_rules.specs.Holding.{Places}
use Rattle.traffic_rules.specs.HeldTold.{is_sent}
use Rattle.traffic_rules.specs.Sending.{is_sendable}
use Rattle.traffic_rules.specs.Repeating.{repeats}

-- a reply of this station: an answer to an individual call, an acknowledgement of a relay, a test reply or a position
-- answer
abbrev pub is_reply : (own : ℕ) → Call → Bool
is_reply own (Individual to category from first second message Reply) = from == own
is_reply own (RelayAck to from casualty) = from == own
is_reply own (Service to category from (Test true)) = from == own
is_reply own (Service to category from (Position position time)) = from == own
is_reply own _ = false

-- a call of traffic: one that an operator of this station may send, or a reply of it
abbrev pub is_of_traffic : (own : ℕ) → Call → Bool
is_of_traffic own call = is_sendable own call || is_reply own call

-- an act of traffic sends only calls that pass this test, each once; it neither ends the station's own alert nor closes
-- a casualty
abbrev pub IsTrafficAct : (Call → Bool) → Act → Type 0
IsTrafficAct is_such (Send call times) = (is_such call ≡ true) × (times ≡ 1)
IsTrafficAct is_such AlertEnded = ⊥
IsTrafficAct is_such (CasualtyClosed mmsi) = ⊥
IsTrafficAct is_such _ = Unit {0}

-- each of these acts is an act of traffic
abbrev pub AreTrafficActs : (Call → Bool) → List Act → Type 0
AreTrafficActs is_such acts = AllByRecursion (IsTrafficAct is_such) acts

-- what is held as sent is such a call
abbrev pub IsSentSuch : (Call → Bool) → Option Holding → Type 0
IsSentSuch is_such None = Unit {0}
IsSentSuch is_such (Some x) = is_sent x.side ≡ true → is_such x.call ≡ true

-- what is held as sent in each of these places is such a call
abbrev pub AreSentSuch : (Call → Bool) → Places → Type 0
AreSentSuch is_such [] = Unit {0}
AreSentSuch is_such (held ∷ places) = IsSentSuch is_such held × AreSentSuch is_such places

-- an operator of this station may send each call that is held as sent, so all that is repeated at a tick is of traffic
pub record AreRepeatedAsTraffic (own : ℕ) (places : Places) : Type 0 where
  pub held : AreSentSuch (is_sendable own) places
  pub repeated : (at : ℕ) → AreTrafficActs (is_of_traffic own) (repeats at 1 places)
