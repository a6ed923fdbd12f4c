-- what a coast station keeps after an event is what the history with this event says
use Rattle.std.proofs.Common.{◌≡◌, ℕ, ◌≤◌, ◌==◌, ◌&&◌, ◌||◌, not, true, false, if◌then◌else◌, Option, Some, None, is_some, is_none, Result, List, [], ◌∷◌, refl, sym, ◌∙◌, ap, subst}
use Rattle.std.proofs.Math.Bool.{or-false}
use Rattle.std.proofs.lemmas.Bool.{false≢true, and_parts, not-true}
use Rattle.std.specs.Prelude.{OnOk, OnErr}
use Rattle.std.proofs.lemmas.Result.{on_ok_weaker, on_err_weaker}
use Rattle.std.proofs.lemmas.Option.{none-some}
use Rattle.call_values.specs.declared.calls.Call.{Call}
use Rattle.call_values.specs.declared.calls.Call.TheVariants as call
use Rattle.call_values.specs.declared.choices.Band.{Band}
use Rattle.traffic_rules.specs.declared.acts.Act.{Act}
use Rattle.traffic_rules.specs.declared.acts.Act.TheVariants as act
use Rattle.traffic_rules.specs.declared.refusals.StationRefusal.{StationRefusal}
use Rattle.traffic_rules.specs.declared.refusals.StationRefusal.TheVariants.{NoCasualty, NeedsDelay}
use Rattle.area_rules.specs.Addressing.{is_for_coast}
use Rattle.traffic_rules.specs.Histories.{History, last_moment}
use Rattle.traffic_rules.specs.Holding.{Places}
use Rattle.traffic_rules.specs.Rules.{refusal_or, continued, Legal}
use Rattle.traffic_rules.specs.Giving.{answer_with}
use Rattle.traffic_rules.specs.Hearing.{heard_due}
use Rattle.traffic_rules.specs.Repeating.{repeats}
use Rattle.traffic_rules.specs.Sending.{send_due}
use Rattle.coast_station.specs.declared.events.CoastWhat.{CoastWhat}
use Rattle.coast_station.specs.declared.events.CoastWhat.TheVariants.{Accept, Tick, Relay, Send, Answer, Heard}
use Rattle.coast_station.specs.declared.casualties.OpenCasualty.{OpenCasualty}
use Rattle.coast_station.specs.declared.coasts.Coast.{Coast}
use Rattle.coast_station.specs.Accepting.{waits, find_casualty, is_due_at_once, acknowledgement, accept_refusal, accept_due_of}
use Rattle.coast_station.specs.Casualties.{open_casualty, open_casualties}
use Rattle.coast_station.specs.CoastRules.{Station, held, is_for, at_call, refusal_by, due_by, refusal_at, due_at, coast_rules}
use Rattle.coast_station.specs.Events.{IsCoastWhat, alert_in}
use Rattle.coast_station.specs.StandsFor.{Keeps, StandsFor}
use Rattle.coast_station.specs.inside.Afterwards.{after_accept_of, after_call, open_after, held_after, answer_by, afterwards}
use Rattle.coast_station.specs.inside.Left.{without, replaced}
use Rattle.coast_station.proofs.Births.{by_test}
use Rattle.coast_station.proofs.Changes.{find_open, named, silent_open, closed_open, due_open, noted_open, accepted_open, accepted_before, acknowledged_open, tick_ends}
use Rattle.coast_station.proofs.HeldOn.{held_goes_on}
use Rattle.coast_station.proofs.Silence.{sent_ends, relayed_ends, answered_ends, heard_ends, repeats_end}
use Rattle.coast_station.proofs.Origins.{none_from}
use Rattle.traffic_rules.proofs.PublicLaws.{goes_on}

some_from : {A : Type 0} (o : Option A) → is_some o ≡ true → (x : A) × (o ≡ Some x)
some_from (Some x) is = (x, refl)
some_from None is = absurd (false≢true is)

-- accepting
needs_delay : (band : Band) (k at : ℕ) (cs : List OpenCasualty) (x : OpenCasualty) → find_casualty k cs ≡ Some x → accept_refusal band k None cs ≡ None
    → is_due_at_once band at None x ≡ false → ⊥
needs_delay band k at cs x found accepted later =
    by_test (waits band)
    (λ b. waits band ≡ b → (not b || false) ≡ false → ⊥)
    (λ _ wait _. none-some _ (sym (sym (ap (λ (o : Option OpenCasualty). if is_none o then Some (NoCasualty k) else (if waits band && true then Some NeedsDelay else None)) found
    ∙ ap (λ b. if b && true then Some NeedsDelay else None) wait) ∙ accepted)))
    (λ _ _ at_once. false≢true (sym at_once))
    refl later

-- a call that isn't for the station is no other station's alert
no_alert : (own : ℕ) (c : Call) → is_for own c ≡ false → alert_in own (Heard c) ≡ None
no_alert own (call.Alert alert) other =
    by_test (alert.mmsi == own) (λ b. (not b && true) ≡ false → (if b then None else Some alert) ≡ None) (λ _ _. refl) (λ _ is. absurd (false≢true (sym is))) other
no_alert own c other = refl

module _ (who : Station) (h : History CoastWhat) (at : ℕ) where
  abbrev cs : List OpenCasualty
  cs = open_casualties who.own h

  accept_later : (k : ℕ) (delay : Option ℕ) (x : OpenCasualty) → open_casualty who.own k h ≡ Some x → find_casualty k cs ≡ Some x → accept_refusal who.band k delay cs ≡ None
      → is_some x.delay ≡ false → is_due_at_once who.band at delay x ≡ false → x.alert.mmsi ≡ k
      → open_casualties who.own (record { at = at; what = Accept k delay; acts = [] } ∷ h) ≡ replaced x.alert.mmsi (record x { delay = delay }) cs
  accept_later k None x was found none new later same = absurd (needs_delay who.band k at cs x found none later)
  accept_later k (Some delay) x was found none new later same =
      accepted_open who.own at k h x delay was (none_from x.delay new) ∙ ap (λ (n : ℕ). replaced n (record x { delay = Some delay }) cs) (sym same)

  accept_now : (k : ℕ) (delay : Option ℕ) (x : OpenCasualty) → find_casualty k cs ≡ Some x → accept_refusal who.band k delay cs ≡ None
      → open_casualties who.own (record { at = at; what = Accept k delay; acts = accept_due_of who.own who.band at delay (Some x) } ∷ h) ≡ after_accept_of who.band at delay (Some x) cs
  accept_now k delay x found none =
      let was = sym (find_open who.own k h) ∙ found in
      let same : x.alert.mmsi ≡ k = named who.own h k x was in
      by_test (is_some x.delay)
      (λ b. is_some x.delay ≡ b
      → open_casualties who.own (record { at = at; what = Accept k delay; acts = if b then [] else (if is_due_at_once who.band at delay x then acknowledgement who.own x.alert ∷ [] else []) } ∷ h)
      ≡ (if b then cs else (if is_due_at_once who.band at delay x then without x.alert.mmsi cs else replaced x.alert.mmsi (record x { delay = delay }) cs)))
      (λ _ old. accepted_before who.own at k h x delay was old)
      (λ _ new. by_test (is_due_at_once who.band at delay x)
      (λ b. is_due_at_once who.band at delay x ≡ b
      → open_casualties who.own (record { at = at; what = Accept k delay; acts = if b then acknowledgement who.own x.alert ∷ [] else [] } ∷ h)
      ≡ (if b then without x.alert.mmsi cs else replaced x.alert.mmsi (record x { delay = delay }) cs))
      (λ _ _. acknowledged_open who.own at k h x delay (acknowledgement who.own x.alert ∷ []) was (λ m. or-false (x.alert.mmsi == m) ∙ ap (λ (n : ℕ). n == m) same)
      ∙ ap (λ (n : ℕ). without n cs) (sym same))
      (λ _ later. accept_later k delay x was found none new later same)
      refl)
      refl

  accept_by : (k : ℕ) (delay : Option ℕ) (o : Option OpenCasualty) → find_casualty k cs ≡ o → accept_refusal who.band k delay cs ≡ None
      → open_casualties who.own (record { at = at; what = Accept k delay; acts = accept_due_of who.own who.band at delay o } ∷ h) ≡ after_accept_of who.band at delay o cs
  accept_by k delay None found none =
      absurd (none-some _ (sym (sym (ap (λ (o : Option OpenCasualty). if is_none o then Some (NoCasualty k) else (if waits who.band && is_none delay then Some NeedsDelay else None)) found) ∙ none)))
  accept_by k delay (Some x) found none = accept_now k delay x found none

  -- a call that is for the station
  heard_open : (c : Call) → is_for who.own c ≡ true
      → open_casualties who.own (record { at = at; what = Heard c; acts = at_call who.own cs (held h) c } ∷ h) ≡ after_call at c cs
  heard_open (call.Alert alert) is =
      let another = not-true (alert.mmsi == who.own) (and_parts (not (alert.mmsi == who.own)) (is_for_coast (call.Alert alert) who.own) is).0 in
      noted_open who.own at alert (act.Distress alert ∷ []) h another (λ m. refl)
  heard_open (call.Ack from closed) is =
      by_test (is_some (find_casualty closed.mmsi cs))
      (λ b. is_some (find_casualty closed.mmsi cs) ≡ b
      → open_casualties who.own (record { at = at; what = Heard (call.Ack from closed); acts = if b then act.CasualtyClosed closed.mmsi ∷ [] else [] } ∷ h)
      ≡ (if b then without closed.mmsi cs else cs))
      (λ _ there.
      let some = some_from (find_casualty closed.mmsi cs) there in
      closed_open who.own (record { at = at; what = Heard (call.Ack from closed); acts = act.CasualtyClosed closed.mmsi ∷ [] }) h closed.mmsi some.0
      (sym (find_open who.own closed.mmsi h) ∙ some.1) (λ m. or-false (closed.mmsi == m)) refl (λ m other. refl))
      (λ _ _. silent_open who.own (record { at = at; what = Heard (call.Ack from closed); acts = [] }) h (λ m. refl) refl (λ m. refl))
      refl
  heard_open c is = silent_open who.own (record { at = at; what = Heard c; acts = heard_due who.own None (held h) c }) h (λ m. heard_ends m who.own (held h) c) refl (λ m. refl)

  call_open : (c : Call) → open_casualties who.own (record { at = at; what = Heard c; acts = due_at who h at (Heard c) } ∷ h) ≡ open_after who at (Heard c) cs
  call_open c =
      by_test (is_for who.own c)
      (λ b. is_for who.own c ≡ b
      → open_casualties who.own (record { at = at; what = Heard c; acts = if b then at_call who.own cs (held h) c else [] } ∷ h) ≡ (if b then after_call at c cs else cs))
      (λ _ is. heard_open c is)
      (λ _ other. silent_open who.own (record { at = at; what = Heard c; acts = [] }) h (λ m. refl) (no_alert who.own c other) (λ m. refl))
      refl

  -- the open casualties after an event that is accepted
  pub casualties_go_on : (what : CoastWhat) → Legal (coast_rules who) h → refusal_at who h what ≡ None
      → open_casualties who.own (record { at = at; what = what; acts = due_at who h at what } ∷ h) ≡ open_after who at what cs
  casualties_go_on (Accept k delay) legal none = accept_by k delay (find_casualty k cs) refl none
  casualties_go_on Tick legal none =
      due_open who.own (record { at = at; what = Tick; acts = due_at who h at Tick }) h at
      (λ m. tick_ends who.own at m h (repeats at 1 (held h)) (repeats_end who h at m legal)) refl (λ m. refl)
  casualties_go_on (Relay k to ask) legal none =
      silent_open who.own (record { at = at; what = Relay k to ask; acts = due_at who h at (Relay k to ask) }) h
      (λ m. relayed_ends m who.own to ask (held h) (find_casualty k cs)) refl (λ m. refl)
  casualties_go_on (Send c) legal none =
      silent_open who.own (record { at = at; what = Send c; acts = send_due (held h) c }) h
      (λ m. sent_ends m who.own (held h) c none) refl (λ m. refl)
  casualties_go_on (Answer number accepts) legal none =
      silent_open who.own (record { at = at; what = Answer number accepts; acts = due_at who h at (Answer number accepts) }) h
      (λ m. answered_ends m who.own (held h) number accepts) refl (λ m. refl)
  casualties_go_on (Heard c) legal none = call_open c

-- a station answers by what it keeps as its histories do
pub answer_same : (who : Station) (h : History CoastWhat) (coast : Coast) (at : ℕ) (what : CoastWhat) → Keeps coast who h
    → answer_by coast at what ≡ refusal_or (refusal_at who h what) (due_at who h at what)
answer_same who h coast at what keeps =
    ap (λ (own : ℕ). refusal_or (refusal_by (record { own = own; band = coast.band }) coast.casualties coast.held what)
    (due_by (record { own = own; band = coast.band }) coast.casualties coast.held at what)) keeps.own
    ∙ ap (λ (band : Band). refusal_or (refusal_by (record { own = who.own; band = band }) coast.casualties coast.held what)
    (due_by (record { own = who.own; band = band }) coast.casualties coast.held at what)) keeps.band
    ∙ ap (λ (cs : List OpenCasualty). refusal_or (refusal_by who cs coast.held what) (due_by who cs coast.held at what)) keeps.casualties
    ∙ ap (λ (l : Places). refusal_or (refusal_by who (open_casualties who.own h) l what) (due_by who (open_casualties who.own h) l at what)) keeps.held

-- what it keeps afterwards is what the history says with the event put last
pub keeps_afterwards : (who : Station) (h : History CoastWhat) (old : Coast) (at : ℕ) (what : CoastWhat) → Keeps old who h → Legal (coast_rules who) h → refusal_at who h what ≡ None
    → Keeps (record (afterwards old at what) { last = at }) who (record { at = at; what = what; acts = due_at who h at what } ∷ h)
keeps_afterwards who h old at what keeps legal none = record {
  own = keeps.own;
  band = keeps.band;
  last = refl;
  casualties = ap (λ (own : ℕ). open_after (record { own = own; band = old.band }) at what old.casualties) keeps.own
      ∙ ap (λ (band : Band). open_after (record { own = who.own; band = band }) at what old.casualties) keeps.band
      ∙ ap (open_after who at what) keeps.casualties ∙ sym (casualties_go_on who h at what legal none);
  held = ap (λ (own : ℕ). held_after (record { own = own; band = old.band }) at what old.casualties old.held) keeps.own
      ∙ ap (λ (band : Band). held_after (record { own = who.own; band = band }) at what old.casualties old.held) keeps.band
      ∙ ap (λ (cs : List OpenCasualty). held_after who at what cs old.held) keeps.casualties
      ∙ ap (held_after who at what (open_casualties who.own h)) keeps.held ∙ sym (held_goes_on who h at what none);
}

-- a station that is as it was after a refusal, and keeps this after an accepted event, stands for its history as this
-- goes on
pub goes : (who : Station) (h : History CoastWhat) (at : ℕ) (what : CoastWhat) (old new : Coast) (result : Result (Unit {0}) StationRefusal) (acts : List Act)
    → last_moment h ≤ at → IsCoastWhat what → StandsFor old who h → answer_with result acts ≡ answer_by old at what
    → OnErr result (new ≡ old) → OnOk result (new ≡ record (afterwards old at what) { last = at }) → StandsFor new who (continued (coast_rules who) h at what)
goes who h at what old new result acts late event stands answer same after =
    goes_on (coast_rules who) h at what (λ (g : History CoastWhat). Keeps new who g) result acts late event stands.0 (answer ∙ answer_same who h old at what stands.1)
    (on_err_weaker result (λ is. subst (λ (coast : Coast). Keeps coast who h) (sym is) stands.1) same)
    (λ none. on_ok_weaker result
    (λ is. subst (λ (coast : Coast). Keeps coast who (record { at = at; what = what; acts = due_at who h at what } ∷ h)) (sym is) (keeps_afterwards who h old at what stands.1 stands.0 none))
    after)
