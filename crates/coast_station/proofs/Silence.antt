-- acts by the rules of traffic end no casualty
use Rattle.std.proofs.Common.{◌≡◌, ℕ, ◌&&◌, Bool, true, false, Option, Some, None, refl, ap}
use Rattle.std.proofs.lemmas.Bool.{false≢true, eq-eqb}
use Rattle.std.specs.List.{list_any}
use Rattle.call_values.specs.declared.calls.Call.{Call}
use Rattle.call_values.specs.declared.calls.Call.TheVariants as call
use Rattle.call_values.specs.declared.calls.Casualty.{Casualty}
use Rattle.call_values.specs.declared.parts.To.{To}
use Rattle.traffic_rules.specs.Histories.{History}
use Rattle.traffic_rules.specs.Holding.{Places}
use Rattle.traffic_rules.specs.Rules.{Legal}
use Rattle.traffic_rules.specs.Sending.{is_sendable, send_refusal, send_due}
use Rattle.traffic_rules.specs.Answering.{answer_due}
use Rattle.traffic_rules.specs.Hearing.{heard_due}
use Rattle.traffic_rules.specs.Repeating.{repeats}
use Rattle.traffic_rules.specs.TrafficActs.{is_of_traffic}
use Rattle.traffic_rules.proofs.PublicLaws.{MissesSuch, none_such, plain_send, plain_answer, plain_repeats, plain_heard}
use Rattle.traffic_rules.proofs.PublicLaws.{may_be_sent, sendable_of_traffic, reply_of_traffic, wider_such, held_sendable}
use Rattle.coast_station.specs.declared.events.CoastWhat.{CoastWhat}
use Rattle.coast_station.specs.declared.casualties.OpenCasualty.{OpenCasualty}
use Rattle.coast_station.specs.Casualties.{is_ack_of, closes}
use Rattle.coast_station.specs.CoastRules.{Station, held, relay_due_of, coast_rules}
use Rattle.coast_station.specs.Events.{coast_occurs}
use Rattle.coast_station.proofs.Sendings.{entry_handles}

-- no call of traffic acknowledges an alert
no_ack : (own m : ℕ) (c : Call) → is_of_traffic own c ≡ true → is_ack_of m c ≡ false
no_ack own m (call.Ack from casualty) is = absurd (false≢true is)
no_ack own m _ is = refl

module _ (m own : ℕ) where
  missed : MissesSuch (is_of_traffic own) (closes m)
  missed = record { sent = no_ack own m; shown = refl; held = λ n. refl; answered = λ n. refl; gave_up = λ n. refl; distress = λ x. refl }

  sent_by : (places : Places) (c : Call) → is_sendable own c ≡ true → list_any (closes m) (send_due places c) ≡ false
  sent_by places c may = none_such (is_of_traffic own) (closes m) missed (send_due places c) (plain_send (is_of_traffic own) places c (sendable_of_traffic own c may))

  -- where an operator's call is sent
  pub sent_ends : (places : Places) (c : Call) → send_refusal own places c ≡ None → list_any (closes m) (send_due places c) ≡ false
  sent_ends places c none = sent_by places c (may_be_sent own places c none)

  relay_may : (to : To) (alert : Casualty) (ask : Bool) → is_sendable own (call.Relay to own alert ask) ≡ true
  relay_may to alert true = ap (λ b. b && true) (eq-eqb own own refl)
  relay_may to alert false = ap (λ b. b && true) (eq-eqb own own refl)

  -- where a casualty's alert is relayed
  pub relayed_ends : (to : To) (ask : Bool) (places : Places) (o : Option OpenCasualty) → list_any (closes m) (relay_due_of own to ask places o) ≡ false
  relayed_ends to ask places None = refl
  relayed_ends to ask places (Some x) = sent_by places (call.Relay to own x.alert ask) (relay_may to x.alert ask)

  -- where a call is answered or declined
  pub answered_ends : (places : Places) (number : ℕ) (accepts : Bool) → list_any (closes m) (answer_due own places number accepts) ≡ false
  answered_ends places number accepts =
      none_such (is_of_traffic own) (closes m) missed (answer_due own places number accepts)
      (plain_answer (is_of_traffic own) own (reply_of_traffic own) places number accepts)

  -- where a call is heard
  pub heard_ends : (places : Places) (c : Call) → list_any (closes m) (heard_due own None places c) ≡ false
  heard_ends places c =
      none_such (is_of_traffic own) (closes m) missed (heard_due own None places c) (plain_heard (is_of_traffic own) own (reply_of_traffic own) None places c)

-- where held calls are repeated
pub repeats_end : (who : Station) (h : History CoastWhat) (at m : ℕ) → Legal (coast_rules who) h → list_any (closes m) (repeats at 1 (held h)) ≡ false
repeats_end who h at m legal =
    let may = held_sendable coast_occurs (coast_rules who) who.own (λ c. true) (entry_handles (λ c. true) who) h legal in
    none_such (is_of_traffic who.own) (closes m) (missed m who.own) (repeats at 1 (held h))
    (plain_repeats (is_of_traffic who.own) at 1 (held h) (wider_such (is_sendable who.own) (is_of_traffic who.own) (sendable_of_traffic who.own) (held h) may))
