-- what each event of a legal history does with the calls that the station sends and holds
use Rattle.std.proofs.Common.{◌≡◌, ℕ, Bool, true, false, if◌then◌else◌, Option, Some, None, is_some, is_none, List, [], ◌∷◌, map, refl, sym, ◌∙◌, ap, subst}
use Rattle.std.specs.List.{list_any, filter}
use Rattle.std.proofs.lemmas.Option.{none-some}
use Rattle.call_values.specs.declared.calls.Call.{Call}
use Rattle.call_values.specs.declared.calls.Call.TheVariants as call
use Rattle.call_values.specs.declared.choices.Band.{Band}
use Rattle.call_values.specs.declared.parts.To.{To}
use Rattle.traffic_rules.specs.declared.acts.Act.{Act}
use Rattle.traffic_rules.specs.declared.acts.Act.TheVariants as act
use Rattle.traffic_rules.specs.declared.refusals.StationRefusal.TheVariants.{NoCasualty}
use Rattle.traffic_rules.specs.Histories.{Entry, History}
use Rattle.traffic_rules.specs.Holding.{Places}
use Rattle.traffic_rules.specs.Rules.{Follows, Legal}
use Rattle.traffic_rules.proofs.PublicLaws.{follows_rules}
use Rattle.traffic_rules.specs.Occurrences.{is_tick}
use Rattle.traffic_rules.specs.Sending.{is_sendable, refused_full}
use Rattle.traffic_rules.specs.Sendings.{asking, sends, is_holding}
use Rattle.traffic_rules.specs.TrafficActs.{AreSentSuch}
use Rattle.traffic_rules.proofs.PublicLaws.{Handles, handles_nothing, handles_tick, handles_heard, handles_answer, handles_send, held_sendable}
use Rattle.coast_station.specs.declared.events.CoastWhat.{CoastWhat}
use Rattle.coast_station.specs.declared.events.CoastWhat.TheVariants.{Accept, Tick, Relay, Send, Answer, Heard}
use Rattle.coast_station.specs.declared.casualties.OpenCasualty.{OpenCasualty}
use Rattle.coast_station.specs.Accepting.{is_due, find_casualty, is_due_at_once, acknowledgement, accept_due_of, acknowledgements_due}
use Rattle.coast_station.specs.Casualties.{open_casualties}
use Rattle.coast_station.specs.CoastRules.{Station, held, is_for, at_call, relay_refusal, relay_due_of, refusal_at, due_at, coast_rules}
use Rattle.coast_station.specs.Events.{coast_occurs}
use Rattle.coast_station.specs.inside.Afterwards.{held_after_relay, held_after_call, held_after}
use Rattle.coast_station.proofs.Births.{by_test}
use Rattle.coast_station.proofs.HeldOn.{relay_sendable, held_goes_on}

module _ (is_such : Call → Bool) where
  -- an acknowledgement of an alert asks for none
  acks_none : (own : ℕ) (xs : List OpenCasualty) → (list_any (sends (asking is_such)) (map (λ (x : OpenCasualty). acknowledgement own x.alert) xs) ≡ false)
      × (list_any is_holding (map (λ (x : OpenCasualty). acknowledgement own x.alert) xs) ≡ false)
  acks_none own [] = (refl, refl)
  acks_none own (x ∷ xs) = acks_none own xs

  accept_none : (own : ℕ) (band : Band) (at : ℕ) (delay : Option ℕ) (o : Option OpenCasualty) → list_any (sends (asking is_such)) (accept_due_of own band at delay o) ≡ false
  accept_none own band at delay None = refl
  accept_none own band at delay (Some x) =
      by_test (is_some x.delay)
      (λ b. list_any (sends (asking is_such)) (if b then [] else (if is_due_at_once band at delay x then acknowledgement own x.alert ∷ [] else [])) ≡ false) (λ _. refl)
      (λ _. by_test (is_due_at_once band at delay x) (λ b. list_any (sends (asking is_such)) (if b then acknowledgement own x.alert ∷ [] else []) ≡ false) (λ _. refl) (λ _. refl))

  ack_none : (told : Bool) (closed : ℕ) → list_any (sends (asking is_such)) (if told then act.CasualtyClosed closed ∷ [] else []) ≡ false
  ack_none true closed = refl
  ack_none false closed = refl

  module _ (who : Station) (h : History CoastWhat) (at : ℕ) where
    abbrev cs : List OpenCasualty
    cs = open_casualties who.own h

    relay_handles : (mmsi : ℕ) (to : To) (ask : Bool) (o : Option OpenCasualty) → find_casualty mmsi cs ≡ o → relay_refusal mmsi ask cs (held h) ≡ None
        → Handles who.own (asking is_such) false (relay_due_of who.own to ask (held h) o) (held h) (held_after_relay who.own at to ask o (held h))
    relay_handles mmsi to ask None found none =
        absurd (none-some _ (sym (sym (ap (λ (o : Option OpenCasualty). if is_none o then Some (NoCasualty mmsi) else refused_full ask (held h)) found) ∙ none)))
    relay_handles mmsi to ask (Some x) found none =
        let room : refused_full ask (held h) ≡ None =
        sym (ap (λ (o : Option OpenCasualty). if is_none o then Some (NoCasualty mmsi) else refused_full ask (held h)) found) ∙ none in
        handles_send is_such who.own (held h) (call.Relay to who.own x.alert ask) at (relay_sendable who.own (held h) to x.alert ask ∙ room)

    call_handles : (c : Call) → Handles who.own (asking is_such) false (at_call who.own cs (held h) c) (held h) (held_after_call at c (held h))
    call_handles (call.Alert casualty) = handles_nothing who.own (asking is_such) (act.Distress casualty ∷ []) (held h) refl
    call_handles (call.Ack from casualty) =
        let told = is_some (find_casualty casualty.mmsi cs) in
        handles_nothing who.own (asking is_such) (if told then act.CasualtyClosed casualty.mmsi ∷ [] else []) (held h) (ack_none told casualty.mmsi)
    call_handles c = handles_heard is_such who.own None (held h) c at

    heard_by : (c : Call) (for_it : Bool)
        → Handles who.own (asking is_such) false (if for_it then at_call who.own cs (held h) c else []) (held h) (if for_it then held_after_call at c (held h) else held h)
    heard_by c true = call_handles c
    heard_by c false = handles_nothing who.own (asking is_such) [] (held h) refl

    due_handles : (what : CoastWhat) → refusal_at who h what ≡ None
        → Handles who.own (asking is_such) (is_tick (coast_occurs what)) (due_at who h at what) (held h) (held_after who at what cs (held h))
    due_handles (Accept mmsi delay) none =
        handles_nothing who.own (asking is_such) (due_at who h at (Accept mmsi delay)) (held h) (accept_none who.own who.band at delay (find_casualty mmsi cs))
    due_handles Tick none =
        let silent = acks_none who.own (filter (is_due at) cs) in
        handles_tick who.own (asking is_such) (acknowledgements_due who.own at cs) at (held h) silent.0 silent.1
    due_handles (Relay mmsi to ask) none = relay_handles mmsi to ask (find_casualty mmsi cs) refl none
    due_handles (Send c) none = handles_send is_such who.own (held h) c at none
    due_handles (Answer number accepts) none = handles_answer is_such who.own (held h) number accepts
    due_handles (Heard c) none = heard_by c (is_for who.own c)

    entry_due_handles : (what : CoastWhat) → refusal_at who h what ≡ None
        → Handles who.own (asking is_such) (is_tick (coast_occurs what)) (due_at who h at what) (held h) (held (record { at = at; what = what; acts = due_at who h at what } ∷ h))
    entry_due_handles what none =
        subst (λ (places : Places). Handles who.own (asking is_such) (is_tick (coast_occurs what)) (due_at who h at what) (held h) places)
        (sym (held_goes_on who h at what none)) (due_handles what none)

  pub entry_handles : (who : Station) (e : Entry CoastWhat) (h : History CoastWhat) → Follows (coast_rules who) e h
      → Handles who.own (asking is_such) (is_tick (coast_occurs e.what)) e.acts (held h) (held (e ∷ h))
  entry_handles who e h follows =
      subst (λ (acts : List Act). Handles who.own (asking is_such) (is_tick (coast_occurs e.what)) acts (held h) (held (record { at = e.at; what = e.what; acts = acts } ∷ h)))
      (sym follows.acts) (entry_due_handles who h e.at e.what (follows_rules (coast_rules who) e h follows))

-- what the station holds as sent may be sent by its operator
pub coast_held_sendable : (who : Station) (h : History CoastWhat) → Legal (coast_rules who) h → AreSentSuch (is_sendable who.own) (held h)
coast_held_sendable who h legal = held_sendable coast_occurs (coast_rules who) who.own (λ c. true) (entry_handles (λ c. true) who) h legal
