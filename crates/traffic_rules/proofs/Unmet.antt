-- a test that no act of the shared rules meets
use Rattle.std.proofs.Common.{◌≡◌, ℕ, Bool, true, false, Option, Some, None, List, [], ◌∷◌, refl, arith}
use Rattle.std.proofs.lemmas.Bool.{or_from}
use Rattle.std.specs.List.{list_any}
use Rattle.call_values.specs.declared.calls.Call.{Call}
use Rattle.call_values.specs.declared.calls.Casualty.{Casualty}
use Rattle.traffic_rules.specs.declared.acts.Act.{Act}
use Rattle.traffic_rules.specs.declared.acts.Act.TheVariants.{Send, Shown, Held, Answered, GaveUp, Distress}
use Rattle.traffic_rules.specs.Holding.{Places}
use Rattle.traffic_rules.specs.Sending.{send_due}
use Rattle.traffic_rules.specs.Answering.{answer_due}
use Rattle.traffic_rules.specs.Repeating.{repeats}
use Rattle.traffic_rules.specs.Hearing.{Whereabouts, heard_due}
use Rattle.traffic_rules.specs.TrafficActs.{IsTrafficAct, AreTrafficActs, AreSentSuch}
use Rattle.traffic_rules.proofs.Plain.{plain_send, plain_repeats}

-- a test that acts of traffic don't meet, where the calls that they send are such
pub record MissesSuch (is_such : Call → Bool) (p : Act → Bool) : Type 0 where
  pub sent : (call : Call) → is_such call ≡ true → p (Send call 1) ≡ false
  pub shown : p Shown ≡ false
  pub held : (number : ℕ) → p (Held number) ≡ false
  pub answered : (number : ℕ) → p (Answered number) ≡ false
  pub gave_up : (number : ℕ) → p (GaveUp number) ≡ false
  pub distress : (casualty : Casualty) → p (Distress casualty) ≡ false

-- it is met by none of them
module _ (is_such : Call → Bool) (p : Act → Bool) (m : MissesSuch is_such p) where
  one : (act : Act) → IsTrafficAct is_such act → p act ≡ false
  one act is = grind arith

  pub none_such : (acts : List Act) → AreTrafficActs is_such acts → list_any p acts ≡ false
  none_such [] are = refl
  none_such (act ∷ acts) are = or_from (p act) (list_any p acts) (one act are.0) (none_such acts are.1)

-- any call
abbrev pub any : Call → Bool
any call = true

all_any : (places : Places) → AreSentSuch any places
all_any [] = tt
all_any (None ∷ places) = (tt, all_any places)
all_any (Some x ∷ places) = (λ sent. refl, all_any places)

-- a test that acts of these kinds don't meet, whatever calls they send
abbrev pub Misses : (Act → Bool) → Type 0
Misses p = MissesSuch any p

module _ (p : Act → Bool) (m : Misses p) where
  pub none_sent : (places : Places) (call : Call) → list_any p (send_due places call) ≡ false
  none_sent places call = none_such any p m (send_due places call) (plain_send any places call refl)

  pub none_replied : (own : ℕ) (places : Places) (number : ℕ) (accepts : Bool) → list_any p (answer_due own places number accepts) ≡ false
  none_replied own places number accepts = grind arith

  pub none_repeated : (at number : ℕ) (places : Places) → list_any p (repeats at number places) ≡ false
  none_repeated at number places = none_such any p m (repeats at number places) (plain_repeats any at number places (all_any places))

  pub none_heard : (own : ℕ) (place : Option Whereabouts) (places : Places) (call : Call) → list_any p (heard_due own place places call) ≡ false
  none_heard own place places call = grind arith
