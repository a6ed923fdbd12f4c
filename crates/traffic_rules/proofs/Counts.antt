-- sent calls that wait to be sent again, and how often acts send such calls
use native.Mathlib.Omega.{arith}
use Rattle.std.proofs.Common.{◌≡◌, ℕ, zero, suc, ◌+◌, ◌≤◌, ◌&&◌, Bool, false, Option, List, [], ◌∷◌, ◌++◌, slice_set, if◌then◌else◌, refl}
use Rattle.std.proofs.lemmas.Bool.{or_parts}
use Rattle.std.specs.Prelude.{map}
use Rattle.std.specs.List.{list_any}
use Rattle.call_values.specs.declared.calls.Call.{Call}
use Rattle.traffic_rules.specs.declared.acts.Act.{Act}
use Rattle.traffic_rules.specs.declared.held.Holding.{Holding}
use Rattle.traffic_rules.specs.Holding.{Places, with_place}
use Rattle.traffic_rules.specs.Repeating.{repeated, ticked, repeats}
use Rattle.traffic_rules.specs.Sendings.{sends, times_by, times_in, waits_once, waiting}
use Rattle.traffic_rules.specs.TrafficActs.{IsSentSuch, AreSentSuch}

module _ (p : Call → Bool) where
  -- once a call is sent again it isn't one of them
  abbrev pub IsNoMore : (again once sent counted : Bool) → Type 0
  IsNoMore again once sent counted =
      ((if counted then 1 else 0) + 0) + (if again && (sent && counted) then 1 else 0) ≤ (if once && (sent && counted) then 1 else 0)

  one_ticked : (at n : ℕ) (o : Option Holding) → times_in p (repeated at n o) + waits_once p (ticked at o) ≤ waits_once p o
  one_ticked at n o = grind arith

  pub times_append : (xs ys : List Act) → times_in p (xs ++ ys) ≡ times_in p xs + times_in p ys
  times_append [] ys = omega arith
  times_append (x ∷ xs) ys = let rest = times_append xs ys in omega arith

  -- at a tick each of them is sent again, or none of it
  pub all_sent_again : (at n : ℕ) (places : Places) → times_in p (repeats at n places) + waiting p (map (ticked at) places) ≤ waiting p places
  all_sent_again at n [] = omega arith
  all_sent_again at n (o ∷ places) =
      let here = one_ticked at n o in
      let rest = all_sent_again at (suc n) places in
      let sum = times_append (repeated at n o) (repeats at (suc n) places) in
      omega arith

  set_waiting : (places : Places) (i : ℕ) (o : Option Holding) → waiting p (slice_set places i o) ≤ waiting p places + waits_once p o
  set_waiting [] i o = omega arith
  set_waiting (x ∷ places) zero o = omega arith
  set_waiting (x ∷ places) (suc i) o = let rest = set_waiting places i o in omega arith

  -- a place that is set adds no more than what is put into it
  pub placed : (places : Places) (n : ℕ) (o : Option Holding) → waiting p (with_place places n o) ≤ waiting p places + waits_once p o
  placed places zero o = omega arith
  placed places (suc i) o = set_waiting places i o

  no_times : (act : Act) → sends p act ≡ false → times_by p act ≡ 0
  no_times act none = grind arith

  -- acts that send no such call send none at any time
  pub none_in : (acts : List Act) → list_any (sends p) acts ≡ false → times_in p acts ≡ 0
  none_in [] none = refl
  none_in (act ∷ acts) none =
      let parts = or_parts (sends p act) (list_any (sends p) acts) none in
      let here = no_times act parts.0 in
      let rest = none_in acts parts.1 in
      omega arith

-- what is held as sent is such a call still, after a place is set and after a tick
module _ (q : Call → Bool) where
  set_such : (places : Places) (i : ℕ) (o : Option Holding) → IsSentSuch q o → AreSentSuch q places → AreSentSuch q (slice_set places i o)
  set_such [] i o new are = are
  set_such (x ∷ places) zero o new are = (new, are.1)
  set_such (x ∷ places) (suc i) o new are = (are.0, set_such places i o new are.1)

  pub placed_such : (places : Places) (n : ℕ) (o : Option Holding) → IsSentSuch q o → AreSentSuch q places → AreSentSuch q (with_place places n o)
  placed_such places zero o new are = are
  placed_such places (suc i) o new are = set_such places i o new are

  one_such : (at : ℕ) (o : Option Holding) → IsSentSuch q o → IsSentSuch q (ticked at o)
  one_such at o is = grind arith

  pub ticked_such : (at : ℕ) (places : Places) → AreSentSuch q places → AreSentSuch q (map (ticked at) places)
  ticked_such at [] are = tt
  ticked_such at (o ∷ places) are = (one_such at o are.0, ticked_such at places are.1)
