-- the calls that a coast station holds after an event are those that the history with this event says
use Rattle.std.proofs.Common.{◌≡◌, ℕ, ◌&&◌, Bool, true, false, if◌then◌else◌, Option, Some, None, is_some, is_none, List, [], ◌∷◌, map, refl, sym, ◌∙◌, ap}
use Rattle.std.proofs.lemmas.Bool.{or_from, eq-eqb}
use Rattle.std.specs.List.{list_any, filter}
use Rattle.std.proofs.lemmas.Option.{none-some}
use Rattle.call_values.specs.declared.calls.Call.{Call}
use Rattle.call_values.specs.declared.calls.Call.TheVariants as call
use Rattle.call_values.specs.declared.calls.Casualty.{Casualty}
use Rattle.call_values.specs.declared.choices.Band.{Band}
use Rattle.call_values.specs.declared.parts.To.{To}
use Rattle.traffic_rules.specs.declared.acts.Act.{Act}
use Rattle.traffic_rules.specs.declared.acts.Act.TheVariants as act
use Rattle.traffic_rules.specs.declared.refusals.StationRefusal.TheVariants.{NoCasualty, NotSendable}
use Rattle.traffic_rules.specs.Histories.{History}
use Rattle.traffic_rules.specs.Holding.{Places}
use Rattle.traffic_rules.specs.HeldTold.{holds}
use Rattle.traffic_rules.specs.HeldTold as told
use Rattle.traffic_rules.specs.Hearing.{heard_due}
use Rattle.traffic_rules.specs.Sending.{send_refusal, send_due, refused_full}
use Rattle.traffic_rules.proofs.PublicLaws.{AreQuiet, after_nothing, after_hearing_nothing, after_send, after_answer, after_ticking, after_heard}
use Rattle.coast_station.specs.declared.events.CoastWhat.{CoastWhat}
use Rattle.coast_station.specs.declared.events.CoastWhat.TheVariants.{Accept, Tick, Relay, Send, Answer, Heard}
use Rattle.coast_station.specs.declared.casualties.OpenCasualty.{OpenCasualty}
use Rattle.coast_station.specs.Accepting.{find_casualty, is_due, is_due_at_once, acknowledgement, accept_due_of, acknowledgements_due}
use Rattle.coast_station.specs.Casualties.{open_casualties}
use Rattle.coast_station.specs.CoastRules.{Station, held, is_for, at_call, relay_refusal, relay_due_of, refusal_at_call, refusal_at, due_at}
use Rattle.coast_station.specs.Events.{coast_occurs}
use Rattle.coast_station.specs.inside.Afterwards.{held_after_relay, held_after_call, held_after}
use Rattle.coast_station.proofs.Births.{by_test}

-- the acknowledgements of a tick hold no call and free no number
acks_none : (p : Act → Bool) (own : ℕ) (xs : List OpenCasualty) → ((c : Call) → p (act.Send c 1) ≡ false) → list_any p (map (λ (x : OpenCasualty). acknowledgement own x.alert) xs) ≡ false
acks_none p own [] sends = refl
acks_none p own (x ∷ xs) sends = or_from (p (acknowledgement own x.alert)) _ (sends (call.Ack own x.alert)) (acks_none p own xs sends)

pub acks_quiet : (own at : ℕ) (xs : List OpenCasualty) → AreQuiet (acknowledgements_due own at xs)
acks_quiet own at xs = record {
  begin = λ k. acks_none (holds k) own (filter (is_due at) xs) (λ c. refl);
  end = λ k. acks_none (told.frees k) own (filter (is_due at) xs) (λ c. refl);
}

-- accepting mentions no number of a held call
accept_quiet : (own : ℕ) (band : Band) (at : ℕ) (delay : Option ℕ) (o : Option OpenCasualty) → AreQuiet (accept_due_of own band at delay o)
accept_quiet own band at delay None = record { begin = λ k. refl; end = λ k. refl }
accept_quiet own band at delay (Some x) =
    by_test (is_some x.delay) (λ b. AreQuiet (if b then [] else (if is_due_at_once band at delay x then acknowledgement own x.alert ∷ [] else [])))
    (λ _. record { begin = λ k. refl; end = λ k. refl })
    (λ _. by_test (is_due_at_once band at delay x) (λ b. AreQuiet (if b then acknowledgement own x.alert ∷ [] else []))
    (λ _. record { begin = λ k. refl; end = λ k. refl }) (λ _. record { begin = λ k. refl; end = λ k. refl }))

-- a relay may be sent where there is room to hold it
pub relay_sendable : (own : ℕ) (places : Places) (to : To) (alert : Casualty) (ask : Bool) → send_refusal own places (call.Relay to own alert ask) ≡ refused_full ask places
relay_sendable own places to alert true = ap (λ b. if b && true then refused_full true places else Some NotSendable) (eq-eqb own own refl)
relay_sendable own places to alert false = ap (λ b. if b && true then refused_full false places else Some NotSendable) (eq-eqb own own refl)

module _ (who : Station) (h : History CoastWhat) (at : ℕ) where
  abbrev cs : List OpenCasualty
  cs = open_casualties who.own h

  relayed_held : (k : ℕ) (to : To) (ask : Bool) (o : Option OpenCasualty) → find_casualty k cs ≡ o → relay_refusal k ask cs (held h) ≡ None
      → held (record { at = at; what = Relay k to ask; acts = relay_due_of who.own to ask (held h) o } ∷ h) ≡ held_after_relay who.own at to ask o (held h)
  relayed_held k to ask None found none =
      absurd (none-some _ (sym (sym (ap (λ (o : Option OpenCasualty). if is_none o then Some (NoCasualty k) else refused_full ask (held h)) found) ∙ none)))
  relayed_held k to ask (Some x) found none =
      let room : refused_full ask (held h) ≡ None =
      sym (ap (λ (o : Option OpenCasualty). if is_none o then Some (NoCasualty k) else refused_full ask (held h)) found) ∙ none in
      after_send coast_occurs (record { at = at; what = Relay k to ask; acts = relay_due_of who.own to ask (held h) (Some x) }) h who.own (call.Relay to who.own x.alert ask) refl refl
      (relay_sendable who.own (held h) to x.alert ask ∙ room)

  heard_held : (c : Call) → refusal_at_call cs (held h) c ≡ None
      → held (record { at = at; what = Heard c; acts = at_call who.own cs (held h) c } ∷ h) ≡ held_after_call at c (held h)
  heard_held (call.Alert alert) none =
      after_hearing_nothing coast_occurs (record { at = at; what = Heard (call.Alert alert); acts = act.Distress alert ∷ [] }) h (call.Alert alert) refl
      (record { begin = λ k. refl; end = λ k. refl })
  heard_held (call.Ack from closed) none =
      by_test (is_some (find_casualty closed.mmsi cs))
      (λ b. held (record { at = at; what = Heard (call.Ack from closed); acts = if b then act.CasualtyClosed closed.mmsi ∷ [] else [] } ∷ h) ≡ held h)
      (λ _. after_hearing_nothing coast_occurs (record { at = at; what = Heard (call.Ack from closed); acts = act.CasualtyClosed closed.mmsi ∷ [] }) h (call.Ack from closed) refl
      (record { begin = λ k. refl; end = λ k. refl }))
      (λ _. after_hearing_nothing coast_occurs (record { at = at; what = Heard (call.Ack from closed); acts = [] }) h (call.Ack from closed) refl
      (record { begin = λ k. refl; end = λ k. refl }))
  heard_held c none = after_heard coast_occurs (record { at = at; what = Heard c; acts = heard_due who.own None (held h) c }) h who.own None c refl refl none

  call_held : (c : Call) → refusal_at who h (Heard c) ≡ None
      → held (record { at = at; what = Heard c; acts = due_at who h at (Heard c) } ∷ h) ≡ held_after who at (Heard c) cs (held h)
  call_held c none =
      by_test (is_for who.own c)
      (λ b. (if b then refusal_at_call cs (held h) c else None) ≡ None
      → held (record { at = at; what = Heard c; acts = if b then at_call who.own cs (held h) c else [] } ∷ h) ≡ (if b then held_after_call at c (held h) else held h))
      (λ _ accepted_so. heard_held c accepted_so)
      (λ _ _. after_hearing_nothing coast_occurs (record { at = at; what = Heard c; acts = [] }) h c refl (record { begin = λ k. refl; end = λ k. refl }))
      none

  pub held_goes_on : (what : CoastWhat) → refusal_at who h what ≡ None
      → held (record { at = at; what = what; acts = due_at who h at what } ∷ h) ≡ held_after who at what cs (held h)
  held_goes_on (Accept k delay) none =
      after_nothing coast_occurs (record { at = at; what = Accept k delay; acts = due_at who h at (Accept k delay) }) h refl
      (accept_quiet who.own who.band at delay (find_casualty k cs))
  held_goes_on Tick none =
      after_ticking coast_occurs (record { at = at; what = Tick; acts = due_at who h at Tick }) h (acknowledgements_due who.own at cs) refl refl (acks_quiet who.own at cs)
  held_goes_on (Relay k to ask) none = relayed_held k to ask (find_casualty k cs) refl none
  held_goes_on (Send c) none = after_send coast_occurs (record { at = at; what = Send c; acts = send_due (held h) c }) h who.own c refl refl none
  held_goes_on (Answer number accepts) none =
      after_answer coast_occurs (record { at = at; what = Answer number accepts; acts = due_at who h at (Answer number accepts) }) h who.own number accepts refl refl none
  held_goes_on (Heard c) none = call_held c none
