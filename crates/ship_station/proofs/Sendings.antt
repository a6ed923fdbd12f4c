-- what each event of a legal history does with the calls that the ship sends and holds
use Rattle.std.proofs.Common.{◌≡◌, ℕ, ◌==◌, ◌&&◌, Bool, true, false, Option, Some, None, is_some, List, [], ◌∷◌, ◌++◌, if◌then◌else◌, refl, sym, subst}
use Rattle.std.specs.List.{list_any}
use Rattle.call_values.specs.declared.calls.Call.{Call}
use Rattle.call_values.specs.declared.calls.Call.TheVariants as call
use Rattle.traffic_rules.specs.declared.acts.Act.{Act}
use Rattle.traffic_rules.specs.declared.acts.Act.TheVariants.{Distress, AlertEnded}
use Rattle.traffic_rules.specs.Histories.{Entry, History}
use Rattle.traffic_rules.specs.Holding.{Places}
use Rattle.traffic_rules.specs.Moments.{has_passed}
use Rattle.traffic_rules.specs.Rules.{Follows, Legal}
use Rattle.traffic_rules.proofs.PublicLaws.{follows_rules}
use Rattle.traffic_rules.specs.Hearing.{Whereabouts, heard_due, heard_refusal}
use Rattle.traffic_rules.specs.Occurrences.{is_tick}
use Rattle.traffic_rules.specs.Repeating.{repeats}
use Rattle.traffic_rules.specs.Sending.{is_sendable, send_due}
use Rattle.traffic_rules.specs.Sendings.{asking, sends, is_holding}
use Rattle.traffic_rules.specs.TrafficActs.{AreSentSuch}
use Rattle.traffic_rules.proofs.PublicLaws.{AreQuiet, after_nothing, after_hearing_nothing, after_send, after_answer, after_ticking, after_heard}
use Rattle.traffic_rules.proofs.PublicLaws.{Handles, handles_nothing, handles_tick, handles_heard, handles_answer, handles_send, held_sendable}
use Rattle.ship_station.specs.declared.events.ShipWhat.{ShipWhat}
use Rattle.ship_station.specs.declared.events.ShipWhat.TheVariants.{Position, Delay, Alert, Cancel, Tick, Send, Answer, Heard}
use Rattle.ship_station.specs.declared.alerts.OwnAlert.{OwnAlert}
use Rattle.ship_station.specs.Events.{ship_occurs}
use Rattle.ship_station.specs.Past.{kept, open_alert, last_attempt, delays_left}
use Rattle.ship_station.specs.ShipRules.{Identities, attempt, at_tick, at_call, held, is_for, refusal_at, due_at, ship_rules}
use Rattle.ship_station.proofs.Traffic.{tick_quiet}

module _ (is_such : Call → Bool) where
  tried_none : (own : ℕ) (place : Whereabouts) (alert : OwnAlert) (passed : Bool)
      → (list_any (sends (asking is_such)) (if passed then attempt own place alert ∷ [] else []) ≡ false) × (list_any is_holding (if passed then attempt own place alert ∷ [] else []) ≡ false)
  tried_none own place alert true = (refl, refl)
  tried_none own place alert false = (refl, refl)

  -- an attempt sends no call that asks for an acknowledgement
  tick_none : (own : ℕ) (place : Whereabouts) (alert : Option OwnAlert) (delays : List ℕ) (last at : ℕ)
      → (list_any (sends (asking is_such)) (at_tick own place alert delays last at) ≡ false) × (list_any is_holding (at_tick own place alert delays last at) ≡ false)
  tick_none own place (Some alert) (delay ∷ delays) last at = tried_none own place alert (has_passed delay last at)
  tick_none own place (Some alert) [] last at = (refl, refl)
  tick_none own place None delays last at = (refl, refl)

  -- what an entry with this event and these acts does
  abbrev Does : (own at : ℕ) → ShipWhat → List Act → History ShipWhat → Type 0
  Does own at what acts h = Handles own (asking is_such) (is_tick (ship_occurs what)) acts (held h) (held (record { at = at; what = what; acts = acts } ∷ h))

  stays : (own : ℕ) (acts : List Act) (before after : Places) → after ≡ before → list_any (sends (asking is_such)) acts ≡ false → Handles own (asking is_such) false acts before after
  stays own acts before after same none =
      subst (λ (places : Places). Handles own (asking is_such) false acts before places) (sym same) (handles_nothing own (asking is_such) acts before none)

  module _ (who : Identities) (h : History ShipWhat) (at : ℕ) where
    nothing_heard : (c : Call) (acts : List Act) → AreQuiet acts → list_any (sends (asking is_such)) acts ≡ false → Does who.own at (Heard c) acts h
    nothing_heard c acts quiet none =
        stays who.own acts (held h) _ (after_hearing_nothing ship_occurs (record { at = at; what = Heard c; acts = acts }) h c refl quiet) none

    heard_ack : (c : Call) (ended : Bool) → Does who.own at (Heard c) (if ended then AlertEnded ∷ [] else []) h
    heard_ack c true = nothing_heard c (AlertEnded ∷ []) (record { begin = λ k. refl; end = λ k. refl }) refl
    heard_ack c false = nothing_heard c [] (record { begin = λ k. refl; end = λ k. refl }) refl

    heard_traffic : (c : Call) → heard_refusal (held h) c ≡ None → Does who.own at (Heard c) (heard_due who.own (Some (kept h)) (held h) c) h
    heard_traffic c none =
        let due = heard_due who.own (Some (kept h)) (held h) c in
        subst (λ (places : Places). Handles who.own (asking is_such) false due (held h) places)
        (sym (after_heard ship_occurs (record { at = at; what = Heard c; acts = due }) h who.own (Some (kept h)) c refl refl none))
        (handles_heard is_such who.own (Some (kept h)) (held h) c at)

    heard_call : (c : Call) → heard_refusal (held h) c ≡ None → Does who.own at (Heard c) (at_call who.own (kept h) (is_some (open_alert h)) (held h) c) h
    heard_call (call.Alert casualty) none = nothing_heard (call.Alert casualty) (Distress casualty ∷ []) (record { begin = λ k. refl; end = λ k. refl }) refl
    heard_call (call.Ack from casualty) none = heard_ack (call.Ack from casualty) (is_some (open_alert h) && (casualty.mmsi == who.own))
    heard_call c none = heard_traffic c none

    heard_by : (c : Call) (for_it : Bool) → (if for_it then heard_refusal (held h) c else None) ≡ None
        → Does who.own at (Heard c) (if for_it then at_call who.own (kept h) (is_some (open_alert h)) (held h) c else []) h
    heard_by c true none = heard_call c none
    heard_by c false none = nothing_heard c [] (record { begin = λ k. refl; end = λ k. refl }) refl

    due_handles : (what : ShipWhat) → refusal_at who h what ≡ None → Does who.own at what (due_at who h at what) h
    due_handles (Position position time) none =
        stays who.own [] (held h) _ (after_nothing ship_occurs (record { at = at; what = Position position time; acts = [] }) h refl (record { begin = λ k. refl; end = λ k. refl })) refl
    due_handles (Delay delay) none =
        stays who.own [] (held h) _ (after_nothing ship_occurs (record { at = at; what = Delay delay; acts = [] }) h refl (record { begin = λ k. refl; end = λ k. refl })) refl
    due_handles (Alert nature comm) none =
        let what = Alert nature comm in
        stays who.own (due_at who h at what) (held h) _
        (after_nothing ship_occurs (record { at = at; what = what; acts = due_at who h at what }) h refl (record { begin = λ k. refl; end = λ k. refl })) refl
    due_handles Cancel none =
        stays who.own (AlertEnded ∷ []) (held h) _ (after_nothing ship_occurs (record { at = at; what = Cancel; acts = AlertEnded ∷ [] }) h refl (record { begin = λ k. refl; end = λ k. refl })) refl
    due_handles Tick none =
        let front = at_tick who.own (kept h) (open_alert h) (delays_left h) (last_attempt h) at in
        let silent = tick_none who.own (kept h) (open_alert h) (delays_left h) (last_attempt h) at in
        subst (λ (places : Places). Handles who.own (asking is_such) true (front ++ repeats at 1 (held h)) (held h) places)
        (sym (after_ticking ship_occurs (record { at = at; what = Tick; acts = due_at who h at Tick }) h front refl refl
        (tick_quiet who.own (kept h) (open_alert h) (delays_left h) (last_attempt h) at)))
        (handles_tick who.own (asking is_such) front at (held h) silent.0 silent.1)
    due_handles (Send c) none =
        subst (λ (places : Places). Handles who.own (asking is_such) false (send_due (held h) c) (held h) places)
        (sym (after_send ship_occurs (record { at = at; what = Send c; acts = send_due (held h) c }) h who.own c refl refl none))
        (handles_send is_such who.own (held h) c at none)
    due_handles (Answer number accepts) none =
        let what = Answer number accepts in
        subst (λ (places : Places). Handles who.own (asking is_such) false (due_at who h at what) (held h) places)
        (sym (after_answer ship_occurs (record { at = at; what = what; acts = due_at who h at what }) h who.own number accepts refl refl none))
        (handles_answer is_such who.own (held h) number accepts)
    due_handles (Heard c) none = heard_by c (is_for who h c) none

  pub entry_handles : (who : Identities) (e : Entry ShipWhat) (h : History ShipWhat) → Follows (ship_rules who) e h
      → Handles who.own (asking is_such) (is_tick (ship_occurs e.what)) e.acts (held h) (held (e ∷ h))
  entry_handles who e h follows =
      subst (λ (acts : List Act). Does who.own e.at e.what acts h) (sym follows.acts) (due_handles who h e.at e.what (follows_rules (ship_rules who) e h follows))

-- what the ship holds as sent may be sent by its operator
pub ship_held_sendable : (who : Identities) (h : History ShipWhat) → Legal (ship_rules who) h → AreSentSuch (is_sendable who.own) (held h)
ship_held_sendable who h legal = held_sendable ship_occurs (ship_rules who) who.own (λ c. true) (entry_handles (λ c. true) who) h legal
