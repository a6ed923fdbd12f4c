-- what a sent acknowledgement goes back to, in legal histories
use Rattle.std.proofs.Common.{◌≡◌, ℕ, ◌⊎◌, inl, inr, true, false, if◌then◌else◌, Option, Some, None, is_some, List, [], ◌∷◌, refl, sym, ◌∙◌, subst}
use Rattle.std.proofs.lemmas.Bool.{false≢true, eq-eqb}
use Rattle.std.specs.List.{list_any, filter}
use Rattle.call_values.specs.declared.calls.Call.{Call}
use Rattle.call_values.specs.declared.calls.Call.TheVariants as call
use Rattle.call_values.specs.declared.calls.Casualty.{Casualty}
use Rattle.traffic_rules.specs.declared.acts.Act.{Act}
use Rattle.traffic_rules.specs.declared.acts.Act.TheVariants as act
use Rattle.traffic_rules.specs.Histories.{History}
use Rattle.traffic_rules.specs.Rules.{Legal}
use Rattle.traffic_rules.specs.Hearing.{heard_due}
use Rattle.traffic_rules.specs.Repeating.{repeats}
use Rattle.coast_station.specs.declared.events.CoastWhat.{CoastWhat}
use Rattle.coast_station.specs.declared.events.CoastWhat.TheVariants.{Accept, Tick, Relay, Send, Answer, Heard}
use Rattle.coast_station.specs.declared.casualties.OpenCasualty.{OpenCasualty}
use Rattle.coast_station.specs.Accepting.{is_due, is_due_at_once, find_casualty, acknowledgement, accept_due_of, acknowledgements_due}
use Rattle.coast_station.specs.Acknowledged.{accepts}
use Rattle.coast_station.specs.Casualties.{closes, open_casualty, born, open_casualties}
use Rattle.coast_station.specs.CoastRules.{Station, held, is_for, at_call, refusal_at, due_at, coast_rules}
use Rattle.coast_station.proofs.Births.{by_test}
use Rattle.coast_station.proofs.Changes.{find_open}
use Rattle.coast_station.proofs.Silence.{sent_ends, relayed_ends, answered_ends, heard_ends, repeats_end}
use Rattle.coast_station.proofs.Among.{Among, among_append, among_any, among_kept, among_mapped, among_listed}

-- why an acknowledgement is sent at an event: its casualty's delay has passed, or it is accepted and acknowledged at
-- once
abbrev pub IsSentFor : Station → (at k : ℕ) → CoastWhat → OpenCasualty → Type 0
IsSentFor who at k what x =
    (is_due at x ≡ true) ⊎ ((delay : Option ℕ) × (what ≡ Accept k delay) × (x.delay ≡ None) × (is_due_at_once who.band at delay x ≡ true))

pub record Origin (who : Station) (h : History CoastWhat) (at : ℕ) (what : CoastWhat) (casualty : Casualty) : Type 0 where
  pub identity : ℕ
  pub open_one : OpenCasualty
  pub was_open : open_casualty who.own identity h ≡ Some open_one
  pub carried : casualty ≡ open_one.alert
  pub reason : IsSentFor who at identity what open_one

-- an acknowledgement isn't among acts that end no casualty
not_among : (from times : ℕ) (casualty : Casualty) (acts : List Act) → list_any (closes casualty.mmsi) acts ≡ false → Among (act.Send (call.Ack from casualty) times) acts → ⊥
not_among from times casualty acts none among =
    false≢true (sym none ∙ among_any (closes casualty.mmsi) (act.Send (call.Ack from casualty) times) acts among (eq-eqb casualty.mmsi casualty.mmsi refl))

same_alert : (own from times : ℕ) (casualty alert : Casualty) → act.Send (call.Ack from casualty) times ≡ acknowledgement own alert → casualty ≡ alert
same_alert own from times casualty alert same = cc

pub none_from : {A : Type 0} (o : Option A) → is_some o ≡ false → o ≡ None
none_from None is = refl
none_from (Some x) is = absurd (false≢true (sym is))

tick_origin : (who : Station) (h : History CoastWhat) (at from times : ℕ) (casualty : Casualty) → Legal (coast_rules who) h
    → Among (act.Send (call.Ack from casualty) times) (due_at who h at Tick) → Origin who h at Tick casualty
tick_origin who h at from times casualty legal among =
    elim (among_append (act.Send (call.Ack from casualty) times) (acknowledgements_due who.own at (open_casualties who.own h)) (repeats at 1 (held h)) among) [
      | inl here ↦
          let sent = among_mapped (λ (x : OpenCasualty). acknowledgement who.own x.alert) _ (filter (is_due at) (open_casualties who.own h)) here in
          let kept = among_kept (is_due at) sent.0 (open_casualties who.own h) sent.1 in
          let told = among_listed (λ m. open_casualty who.own m h) sent.0 (born who.own h) kept.0 in
          record { identity = told.0; open_one = sent.0; was_open = told.1; carried = same_alert who.own from times casualty sent.0.alert sent.2; reason = inl kept.1 }
      | inr there ↦ absurd (not_among from times casualty (repeats at 1 (held h)) (repeats_end who h at casualty.mmsi legal) there)
    ]

accept_origin : (who : Station) (h : History CoastWhat) (at k from times : ℕ) (delay : Option ℕ) (casualty : Casualty) (o : Option OpenCasualty) → open_casualty who.own k h ≡ o
    → Among (act.Send (call.Ack from casualty) times) (accept_due_of who.own who.band at delay o) → Origin who h at (Accept k delay) casualty
accept_origin who h at k from times delay casualty None was among = absurd among
accept_origin who h at k from times delay casualty (Some x) was among =
    by_test (is_some x.delay)
    (λ b. is_some x.delay ≡ b → Among (act.Send (call.Ack from casualty) times) (if b then [] else (if is_due_at_once who.band at delay x then acknowledgement who.own x.alert ∷ [] else []))
    → Origin who h at (Accept k delay) casualty)
    (λ _ _ here. absurd here)
    (λ _ new. by_test (is_due_at_once who.band at delay x)
    (λ b. is_due_at_once who.band at delay x ≡ b → Among (act.Send (call.Ack from casualty) times) (if b then acknowledgement who.own x.alert ∷ [] else []) → Origin who h at (Accept k delay) casualty)
    (λ _ now here. elim here [
      | inl same ↦ record { identity = k; open_one = x; was_open = was; carried = same_alert who.own from times casualty x.alert same; reason = inr (delay, refl, none_from x.delay new, now) }
      | inr there ↦ absurd there
    ])
    (λ _ _ here. absurd here) refl)
    refl among

closes_none : (from times : ℕ) (casualty : Casualty) (m : ℕ) → act.Send (call.Ack from casualty) times ≡ act.CasualtyClosed m → ⊥
closes_none from times casualty m same = cc

distress_none : (from times : ℕ) (casualty alert : Casualty) → act.Send (call.Ack from casualty) times ≡ act.Distress alert → ⊥
distress_none from times casualty alert same = cc

call_no_ack : (own from times : ℕ) (casualty : Casualty) (h : History CoastWhat) (c : Call) → Among (act.Send (call.Ack from casualty) times) (at_call own (open_casualties own h) (held h) c) → ⊥
call_no_ack own from times casualty h (call.Alert alert) (inl same) = distress_none from times casualty alert same
call_no_ack own from times casualty h (call.Alert alert) (inr there) = absurd there
call_no_ack own from times casualty h (call.Ack other closed) among =
    by_test (is_some (find_casualty closed.mmsi (open_casualties own h)))
    (λ b. Among (act.Send (call.Ack from casualty) times) (if b then act.CasualtyClosed closed.mmsi ∷ [] else []) → ⊥)
    (λ _ here. elim here [ inl same ↦ closes_none from times casualty closed.mmsi same | inr there ↦ absurd there ])
    (λ _ here. absurd here) among
call_no_ack own from times casualty h c among = not_among from times casualty (heard_due own None (held h) c) (heard_ends casualty.mmsi own (held h) c) among

pub origin_of : (who : Station) (h : History CoastWhat) (at from times : ℕ) (what : CoastWhat) (casualty : Casualty) → Legal (coast_rules who) h → refusal_at who h what ≡ None
    → Among (act.Send (call.Ack from casualty) times) (due_at who h at what) → Origin who h at what casualty
origin_of who h at from times Tick casualty legal none among = tick_origin who h at from times casualty legal among
origin_of who h at from times (Accept k delay) casualty legal none among =
    accept_origin who h at k from times delay casualty (open_casualty who.own k h) refl
    (subst (λ (o : Option OpenCasualty). Among (act.Send (call.Ack from casualty) times) (accept_due_of who.own who.band at delay o)) (find_open who.own k h) among)
origin_of who h at from times (Relay k to ask) casualty legal none among =
    absurd (not_among from times casualty (due_at who h at (Relay k to ask)) (relayed_ends casualty.mmsi who.own to ask (held h) (find_casualty k (open_casualties who.own h))) among)
origin_of who h at from times (Send c) casualty legal none among =
    absurd (not_among from times casualty (due_at who h at (Send c)) (sent_ends casualty.mmsi who.own (held h) c none) among)
origin_of who h at from times (Answer number accepts) casualty legal none among =
    absurd (not_among from times casualty (due_at who h at (Answer number accepts)) (answered_ends casualty.mmsi who.own (held h) number accepts) among)
origin_of who h at from times (Heard c) casualty legal none among =
    absurd (by_test (is_for who.own c)
    (λ b. Among (act.Send (call.Ack from casualty) times) (if b then at_call who.own (open_casualties who.own h) (held h) c else []) → ⊥)
    (λ _ here. call_no_ack who.own from times casualty h c here) (λ _ here. absurd here) among)
