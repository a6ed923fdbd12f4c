-- acts by the rules of traffic send such calls alone, each once
use Rattle.std.proofs.Common.{◌≡◌, ℕ, suc, ◌||◌, Bool, true, false, Option, Some, None, List, [], ◌∷◌, ◌++◌, if◌then◌else◌, refl, ap, arith}
use Rattle.std.proofs.lemmas.Bool.{eq-eqb, or_right}
use Rattle.call_values.specs.declared.calls.Call.{Call}
use Rattle.call_values.specs.declared.calls.Call.TheVariants.{Alert, Ack, Relay, Individual, Service}
use Rattle.call_values.specs.declared.choices.Category.{Category}
use Rattle.call_values.specs.declared.parts.Kind.TheVariants.{Test, AskPosition}
use Rattle.traffic_rules.specs.declared.acts.Act.{Act}
use Rattle.traffic_rules.specs.declared.held.Holding.{Holding}
use Rattle.traffic_rules.specs.declared.refusals.StationRefusal.{StationRefusal}
use Rattle.traffic_rules.specs.declared.refusals.StationRefusal.TheVariants.{NotSendable}
use Rattle.traffic_rules.specs.Holding.{Places, place_of, first_free}
use Rattle.traffic_rules.specs.Sending.{asks, acknowledges, is_sendable, held_under_least, send_refusal, send_due}
use Rattle.traffic_rules.specs.Answering.{reply_to, reply_due_to, answer_due}
use Rattle.traffic_rules.specs.Repeating.{repeated, repeats}
use Rattle.traffic_rules.specs.Hearing.{Whereabouts, is_question, is_got, distress_told, question_due, answered_number, answered_or_shown, position_told, due_at_once, heard_due}
use Rattle.traffic_rules.specs.TrafficActs.{is_reply, is_of_traffic, AreTrafficActs, IsSentSuch, AreSentSuch, AreRepeatedAsTraffic}

module _ (q : Call → Bool) where
  both : (xs ys : List Act) → AreTrafficActs q xs → AreTrafficActs q ys → AreTrafficActs q (xs ++ ys)
  both [] ys first last = last
  both (x ∷ xs) ys first last = (first.0, both xs ys first.1 last)

  one_repeated : (at n : ℕ) (o : Option Holding) → IsSentSuch q o → AreTrafficActs q (repeated at n o)
  one_repeated at n o is = grind arith

  -- at a tick
  pub plain_repeats : (at n : ℕ) (places : Places) → AreSentSuch q places → AreTrafficActs q (repeats at n places)
  plain_repeats at n [] are = tt
  plain_repeats at n (o ∷ places) are = both (repeated at n o) (repeats at (suc n) places) (one_repeated at n o are.0) (plain_repeats at (suc n) places are.1)

  held_or_not : (a : Bool) (o : Option ℕ) → AreTrafficActs q (if a then held_under_least o else [])
  held_or_not a o = grind arith

  got_or_held : (got : Bool) (o : Option ℕ) → AreTrafficActs q (if got then [] else held_under_least o)
  got_or_held got o = grind arith

  -- where a call is sent
  pub plain_send : (places : Places) (call : Call) → q call ≡ true → AreTrafficActs q (send_due places call)
  plain_send places call is = ((is, refl), held_or_not (asks call) (first_free places))

  module _ (own : ℕ) (replies : (call : Call) → is_reply own call ≡ true → q call ≡ true) where
    reply : (accepts : Bool) (call : Call) → AreTrafficActs q (reply_to own accepts call)
    reply true (Individual to category from first second message end) = ((replies _ (eq-eqb own own refl), refl), tt)
    reply false (Individual to category from first second message end) = ((replies _ (eq-eqb own own refl), refl), tt)
    reply true (Relay to from casualty ask) = ((replies _ (eq-eqb own own refl), refl), tt)
    reply true _ = tt
    reply false _ = tt

    replied : (accepts : Bool) (o : Option Holding) → AreTrafficActs q (reply_due_to own accepts o)
    replied accepts None = tt
    replied accepts (Some x) = reply accepts x.call

    -- where a call is answered or declined
    pub plain_answer : (places : Places) (number : ℕ) (accepts : Bool) → AreTrafficActs q (answer_due own places number accepts)
    plain_answer places number accepts = replied accepts (place_of places number)

    told : (call : Call) → AreTrafficActs q (distress_told call)
    told (Relay to from casualty ask) = (tt, tt)
    told _ = tt

    shown_or : (o : Option ℕ) → AreTrafficActs q (answered_or_shown o)
    shown_or None = (tt, tt)
    shown_or (Some n) = (tt, tt)

    position_or : (place : Option Whereabouts) (to : ℕ) (category : Category) → AreTrafficActs q (position_told own place to category)
    position_or None to category = (tt, tt)
    position_or (Some place) to category = ((replies _ (eq-eqb own own refl), refl), tt)

    at_once : (place : Option Whereabouts) (call : Call) → AreTrafficActs q (due_at_once own place call)
    at_once place (Alert casualty) = tt
    at_once place (Ack from casualty) = tt
    at_once place (Relay to from casualty ask) = (tt, tt)
    at_once place (Service to category from (Test reply)) = ((replies _ (eq-eqb own own refl), refl), tt)
    at_once place (Service to category from AskPosition) = position_or place from category
    at_once place _ = (tt, tt)

    heard_by : (place : Option Whereabouts) (places : Places) (call : Call) (asked acked : Bool)
        → AreTrafficActs q (if asked then question_due places call else (if acked then answered_or_shown (answered_number places call) else due_at_once own place call))
    heard_by place places call true acked =
        both (distress_told call) (if is_got places call then [] else held_under_least (first_free places)) (told call)
        (got_or_held (is_got places call) (first_free places))
    heard_by place places call false true = shown_or (answered_number places call)
    heard_by place places call false false = at_once place call

    -- where a call is heard
    pub plain_heard : (place : Option Whereabouts) (places : Places) (call : Call) → AreTrafficActs q (heard_due own place places call)
    plain_heard place places call = heard_by place places call (is_question call) (acknowledges call)

-- a call that is sent and not refused may be sent
sent_by : (s : Bool) (r : Option StationRefusal) → (if s then r else Some NotSendable) ≡ None → s ≡ true
sent_by s r none = grind arith

-- and it isn't refused for what else there is
pub sendable : (s : Bool) (r : Option StationRefusal) → (if s then r else Some NotSendable) ≡ None → r ≡ None
sendable s r none = grind arith

-- a call that isn't refused may be sent
pub may_be_sent : (own : ℕ) (places : Places) (call : Call) → send_refusal own places call ≡ None → is_sendable own call ≡ true
may_be_sent own places call none = sent_by (is_sendable own call) _ none

-- a call that may be sent, and a reply, are of traffic
pub sendable_of_traffic : (own : ℕ) (call : Call) → is_sendable own call ≡ true → is_of_traffic own call ≡ true
sendable_of_traffic own call is = ap (λ (b : Bool). b || is_reply own call) is

pub reply_of_traffic : (own : ℕ) (call : Call) → is_reply own call ≡ true → is_of_traffic own call ≡ true
reply_of_traffic own call is = or_right (is_sendable own call) (is_reply own call) is

-- what is held as sent is also such as is wider
pub wider_such : (p q : Call → Bool) → ((call : Call) → p call ≡ true → q call ≡ true) → (places : Places) → AreSentSuch p places → AreSentSuch q places
wider_such p q wider [] are = tt
wider_such p q wider (None ∷ places) are = (tt, wider_such p q wider places are.1)
wider_such p q wider (Some x ∷ places) are = (λ sent. wider x.call (are.0 sent), wider_such p q wider places are.1)

-- what is repeated of held calls that an operator may send is of traffic
pub repeated_as_traffic : (own : ℕ) (places : Places) → AreSentSuch (is_sendable own) places → AreRepeatedAsTraffic own places
repeated_as_traffic own places are = record {
  held = are;
  repeated = λ at. plain_repeats (is_of_traffic own) at 1 places (wider_such (is_sendable own) (is_of_traffic own) (sendable_of_traffic own) places are);
}
