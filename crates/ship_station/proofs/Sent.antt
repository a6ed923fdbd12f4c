-- the ship's distress alert is sent as an attempt, and every other call once
use Rattle.std.proofs.Common.{◌≡◌, ℕ, ◌⊎◌, inl, inr, ◌==◌, ◌&&◌, Bool, true, false, Option, Some, None, is_some, List, [], ◌∷◌, ◌++◌, if◌then◌else◌, refl, sym, subst}
use Rattle.std.proofs.lemmas.Bool.{false≢true}
use Rattle.std.specs.List.{AllByRecursion}
use Rattle.call_values.specs.declared.calls.Call.{Call}
use Rattle.call_values.specs.declared.calls.Call.TheVariants as call
use Rattle.traffic_rules.specs.declared.acts.Act.{Act}
use Rattle.traffic_rules.specs.declared.acts.Act.TheVariants.{Shown, Held, Answered, GaveUp, Distress, AlertEnded, CasualtyClosed}
use Rattle.traffic_rules.specs.declared.acts.Act.TheVariants as act
use Rattle.traffic_rules.specs.Histories.{Entry, History}
use Rattle.traffic_rules.specs.Moments.{has_passed}
use Rattle.traffic_rules.specs.Rules.{Legal}
use Rattle.traffic_rules.proofs.PublicLaws.{follows_rules, legal_before}
use Rattle.traffic_rules.specs.Repeating.{repeats}
use Rattle.traffic_rules.specs.Sending.{is_sendable}
use Rattle.traffic_rules.specs.Sendings.{is_alert}
use Rattle.traffic_rules.specs.TrafficActs.{is_of_traffic, IsTrafficAct, AreTrafficActs, AreSentSuch}
use Rattle.traffic_rules.proofs.PublicLaws.{plain_send, plain_answer, plain_repeats, plain_heard, may_be_sent, sendable_of_traffic, reply_of_traffic, wider_such}
use Rattle.ship_station.specs.declared.events.ShipWhat.{ShipWhat}
use Rattle.ship_station.specs.declared.events.ShipWhat.TheVariants.{Position, Delay, Alert, Cancel, Tick, Send, Answer, Heard}
use Rattle.ship_station.specs.declared.alerts.OwnAlert.{OwnAlert}
use Rattle.ship_station.specs.Attempted.{IsAttempted}
use Rattle.ship_station.specs.Past.{kept, open_alert, last_attempt, delays_left}
use Rattle.ship_station.specs.ShipRules.{Identities, attempt, at_tick, at_call, held, is_for, refusal_at, due_at, ship_rules}
use Rattle.ship_station.proofs.Sendings.{ship_held_sendable}

-- no call of traffic is a distress alert
no_alert : (own : ℕ) (c : Call) → is_of_traffic own c ≡ true → is_alert c ≡ false
no_alert own (call.Alert casualty) is = absurd (false≢true is)
no_alert own _ is = refl

-- what an act sends is an attempt, or it is no distress alert and is sent once
abbrev pub IsSentSo : (own : ℕ) → History ShipWhat → ShipWhat → Act → Type 0
IsSentSo own h what (act.Send c times) = IsAttempted own h what (act.Send c times) ⊎ ((is_alert c ≡ false) × (times ≡ 1))
IsSentSo own h what _ = Unit {0}

module _ (own : ℕ) (h : History ShipWhat) (what : ShipWhat) where
  abbrev pub AreSentSo : List Act → Type 0
  AreSentSo acts = AllByRecursion (IsSentSo own h what) acts

  one_plain : (a : Act) → IsTrafficAct (is_of_traffic own) a → IsSentSo own h what a
  one_plain (act.Send c times) is = inr (no_alert own c is.0, is.1)
  one_plain _ is = tt

  all_plain : (acts : List Act) → AreTrafficActs (is_of_traffic own) acts → AreSentSo acts
  all_plain [] are = tt
  all_plain (a ∷ acts) are = (one_plain a are.0, all_plain acts are.1)

  both_so : (xs ys : List Act) → AreSentSo xs → AreSentSo ys → AreSentSo (xs ++ ys)
  both_so [] ys first last = last
  both_so (x ∷ xs) ys first last = (first.0, both_so xs ys first.1 last)

  one_of : (first last : List Act) (a : Act) → AreSentSo (first ++ a ∷ last) → IsSentSo own h what a
  one_of [] last a are = are.0
  one_of (x ∷ first) last a are = one_of first last a are.1

module _ (who : Identities) (h : History ShipWhat) where
  tried : (alert : OwnAlert) (passed : Bool) → open_alert h ≡ Some alert → AreSentSo who.own h Tick (if passed then attempt who.own (kept h) alert ∷ [] else [])
  tried alert true on = (inl (record { alert = alert; tried = on; act = refl }), tt)
  tried alert false on = tt

  tick_so : (o : Option OwnAlert) (delays : List ℕ) (last at : ℕ) → open_alert h ≡ o → AreSentSo who.own h Tick (at_tick who.own (kept h) o delays last at)
  tick_so (Some alert) (delay ∷ delays) last at on = tried alert (has_passed delay last at) on
  tick_so (Some alert) [] last at on = tt
  tick_so None delays last at on = tt

  ack_so : (what : ShipWhat) (ended : Bool) → AreSentSo who.own h what (if ended then AlertEnded ∷ [] else [])
  ack_so what true = (tt, tt)
  ack_so what false = tt

  call_so : (what : ShipWhat) (c : Call) → AreSentSo who.own h what (at_call who.own (kept h) (is_some (open_alert h)) (held h) c)
  call_so what (call.Alert casualty) = (tt, tt)
  call_so what (call.Ack from casualty) = ack_so what (is_some (open_alert h) && (casualty.mmsi == who.own))
  call_so what c =
      all_plain who.own h what (at_call who.own (kept h) (is_some (open_alert h)) (held h) c)
      (plain_heard (is_of_traffic who.own) who.own (reply_of_traffic who.own) (Some (kept h)) (held h) c)

  heard_so : (what : ShipWhat) (c : Call) (for_it : Bool)
      → AreSentSo who.own h what (if for_it then at_call who.own (kept h) (is_some (open_alert h)) (held h) c else [])
  heard_so what c true = call_so what c
  heard_so what c false = tt

  due_so : (at : ℕ) (what : ShipWhat) → AreSentSuch (is_sendable who.own) (held h) → refusal_at who h what ≡ None → AreSentSo who.own h what (due_at who h at what)
  due_so at (Position position time) are none = tt
  due_so at (Delay delay) are none = tt
  due_so at (Alert nature comm) are none = (inl (record { alert = record { nature = nature; comm = comm }; tried = refl; act = refl }), tt)
  due_so at Cancel are none = (tt, tt)
  due_so at Tick are none =
      let front = at_tick who.own (kept h) (open_alert h) (delays_left h) (last_attempt h) at in
      both_so who.own h Tick front (repeats at 1 (held h)) (tick_so (open_alert h) (delays_left h) (last_attempt h) at refl)
      (all_plain who.own h Tick (repeats at 1 (held h)) (plain_repeats (is_of_traffic who.own) at 1 (held h)
      (wider_such (is_sendable who.own) (is_of_traffic who.own) (sendable_of_traffic who.own) (held h) are)))
  due_so at (Send c) are none =
      all_plain who.own h (Send c) (due_at who h at (Send c))
      (plain_send (is_of_traffic who.own) (held h) c (sendable_of_traffic who.own c (may_be_sent who.own (held h) c none)))
  due_so at (Answer number accepts) are none =
      all_plain who.own h (Answer number accepts) (due_at who h at (Answer number accepts))
      (plain_answer (is_of_traffic who.own) who.own (reply_of_traffic who.own) (held h) number accepts)
  due_so at (Heard c) are none = heard_so (Heard c) c (is_for who h c)

-- each act of an entry of a legal history is so
pub entry_so : (who : Identities) (e : Entry ShipWhat) (h : History ShipWhat) → Legal (ship_rules who) (e ∷ h) → AreSentSo who.own h e.what e.acts
entry_so who e h legal =
    subst (λ (some : List Act). AreSentSo who.own h e.what some) (sym legal.0.acts)
    (due_so who h e.at e.what (ship_held_sendable who h legal.1) (follows_rules (ship_rules who) e h legal.0))

pub sent_so : (who : Identities) (later earlier : History ShipWhat) (sent : Entry ShipWhat) (c : Call) (times : ℕ) (first last : List Act)
    → Legal (ship_rules who) (later ++ sent ∷ earlier) → sent.acts ≡ first ++ act.Send c times ∷ last
    → IsAttempted who.own earlier sent.what (act.Send c times) ⊎ ((is_alert c ≡ false) × (times ≡ 1))
sent_so who later earlier sent c times first last legal acts =
    one_of who.own earlier sent.what first last (act.Send c times)
    (subst (λ (some : List Act). AreSentSo who.own earlier sent.what some) acts
    (entry_so who sent earlier (legal_before (ship_rules who) later (sent ∷ earlier) legal)))
