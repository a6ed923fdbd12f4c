-- the ends of a ship's distress alert in legal histories
use Rattle.std.proofs.Common.{◌≡◌, ℕ, ◌==◌, ◌&&◌, ◌||◌, Bool, true, false, Option, Some, None, is_some, if◌then◌else◌, List, [], ◌∷◌, ◌++◌, refl, sym, ◌∙◌, ap, subst}
use Rattle.std.proofs.lemmas.Bool.{false≢true, eqb-true, or_parts}
use Rattle.std.specs.List.{list_any}
use Rattle.call_values.specs.declared.calls.Call.{Call}
use Rattle.call_values.specs.declared.calls.Call.TheVariants as call
use Rattle.traffic_rules.specs.declared.acts.Act.{Act}
use Rattle.traffic_rules.specs.declared.acts.Act.TheVariants.{AlertEnded}
use Rattle.traffic_rules.specs.Histories.{Entry, History, does, NoneIs, last_told, since}
use Rattle.traffic_rules.specs.Holding.{Places}
use Rattle.traffic_rules.specs.Moments.{has_passed}
use Rattle.traffic_rules.specs.Rules.{Legal}
use Rattle.traffic_rules.proofs.PublicLaws.{legal_before}
use Rattle.traffic_rules.specs.Hearing.{Whereabouts, heard_due}
use Rattle.traffic_rules.proofs.PublicLaws.{none_sent, none_replied, none_heard}
use Rattle.ship_station.specs.declared.events.ShipWhat.{ShipWhat}
use Rattle.ship_station.specs.declared.events.ShipWhat.TheVariants.{Position, Delay, Alert, Cancel, Tick, Send, Answer, Heard}
use Rattle.ship_station.specs.declared.alerts.OwnAlert.{OwnAlert}
use Rattle.ship_station.specs.Events.{alert_of, begins_alert, MayEndAlert}
use Rattle.ship_station.specs.Past.{is_attempt, is_end, kept, open_alert, last_attempt, delays_left}
use Rattle.ship_station.specs.ShipRules.{Identities, attempt, at_tick, at_call, held, is_for, due_at, ship_rules}
use Rattle.ship_station.proofs.Traffic.{attempts_missed, ends_missed, tick_test}

off_by : (e : Entry ShipWhat) (h : History ShipWhat) (ends : Bool) → begins_alert e ≡ false → open_alert h ≡ None
    → last_told (λ e. alert_of e.what) (if ends then [] else e ∷ since (does is_end) h) ≡ None
off_by e h true none off = refl
off_by e h false none off = ap (λ (b : Bool). if b then alert_of e.what else open_alert h) none ∙ off

-- no alert is on after an end, until an event begins one
pub off_after_end : (later earlier : History ShipWhat) (ended : Entry ShipWhat) → does is_end ended ≡ true → NoneIs begins_alert later
    → open_alert (later ++ ended ∷ earlier) ≡ None
off_after_end [] earlier ended end none =
    ap (λ (b : Bool). last_told (λ e. alert_of e.what) (if b then [] else ended ∷ since (does is_end) earlier)) end
off_after_end (e ∷ later) earlier ended end none =
    let parts = or_parts (begins_alert e) (list_any begins_alert later) none in
    off_by e (later ++ ended ∷ earlier) (does is_end e) parts.0 (off_after_end later earlier ended end parts.1)

-- a heard acknowledgement makes no attempt, and ends the alert where it names the ship
ack_attempt : (test : Bool) → list_any is_attempt (if test then AlertEnded ∷ [] else []) ≡ false
ack_attempt true = refl
ack_attempt false = refl

call_attempt : (own : ℕ) (place : Whereabouts) (is_on : Bool) (places : Places) (c : Call) → list_any is_attempt (at_call own place is_on places c) ≡ false
call_attempt own place is_on places (call.Alert casualty) = refl
call_attempt own place is_on places (call.Ack from casualty) = ack_attempt (is_on && (casualty.mmsi == own))
call_attempt own place is_on places (call.Relay to from casualty ask) = none_heard is_attempt attempts_missed own (Some place) places (call.Relay to from casualty ask)
call_attempt own place is_on places (call.RelayAck to from casualty) = none_heard is_attempt attempts_missed own (Some place) places (call.RelayAck to from casualty)
call_attempt own place is_on places (call.AllShips category from first second f1 f2) =
    none_heard is_attempt attempts_missed own (Some place) places (call.AllShips category from first second f1 f2)
call_attempt own place is_on places (call.AreaCall area category from first second f1 f2) =
    none_heard is_attempt attempts_missed own (Some place) places (call.AreaCall area category from first second f1 f2)
call_attempt own place is_on places (call.GroupCall group category from first second f1 f2) =
    none_heard is_attempt attempts_missed own (Some place) places (call.GroupCall group category from first second f1 f2)
call_attempt own place is_on places (call.Individual to category from first second message end) =
    none_heard is_attempt attempts_missed own (Some place) places (call.Individual to category from first second message end)
call_attempt own place is_on places (call.Service to category from kind) =
    none_heard is_attempt attempts_missed own (Some place) places (call.Service to category from kind)

pub heard_attempt : (own : ℕ) (place : Whereabouts) (is_on for_it : Bool) (places : Places) (c : Call)
    → list_any is_attempt (if for_it then at_call own place is_on places c else []) ≡ false
heard_attempt own place is_on true places c = call_attempt own place is_on places c
heard_attempt own place is_on false places c = refl

-- where no alert is on, no event makes an attempt but one that begins an alert
due_attempt : (who : Identities) (h : History ShipWhat) (at : ℕ) (what : ShipWhat) → open_alert h ≡ None → is_some (alert_of what) ≡ false
    → list_any is_attempt (due_at who h at what) ≡ false
due_attempt who h at (Position position time) off none = refl
due_attempt who h at (Delay delay) off none = refl
due_attempt who h at (Alert nature comm) off none = absurd (false≢true (sym none))
due_attempt who h at Cancel off none = refl
due_attempt who h at Tick off none =
    tick_test is_attempt attempts_missed (at_tick who.own (kept h) (open_alert h) (delays_left h) (last_attempt h) at) at (held h)
    ∙ ap (λ (o : Option OwnAlert). list_any is_attempt (at_tick who.own (kept h) o (delays_left h) (last_attempt h) at)) off
due_attempt who h at (Send c) off none = none_sent is_attempt attempts_missed (held h) c
due_attempt who h at (Answer number accepts) off none = none_replied is_attempt attempts_missed who.own (held h) number accepts
due_attempt who h at (Heard c) off none = heard_attempt who.own (kept h) (is_some (open_alert h)) (is_for who h c) (held h) c

pub none_after_end : (who : Identities) (later earlier : History ShipWhat) (ended : Entry ShipWhat) → Legal (ship_rules who) (later ++ ended ∷ earlier)
    → does is_end ended ≡ true → NoneIs begins_alert later → NoneIs (does is_attempt) later
none_after_end who [] earlier ended legal end none = refl
none_after_end who (e ∷ later) earlier ended legal end none =
    let h = later ++ ended ∷ earlier in
    let parts = or_parts (begins_alert e) (list_any begins_alert later) none in
    let here : does is_attempt e ≡ false =
    ap (list_any is_attempt) legal.0.acts ∙ due_attempt who h e.at e.what (off_after_end later earlier ended end parts.1) parts.0 in
    ap (λ (b : Bool). b || list_any (does is_attempt) later) here ∙ none_after_end who later earlier ended legal.1 end parts.1

-- no tick ends an alert
tick_by : (own : ℕ) (place : Whereabouts) (alert : OwnAlert) (passed : Bool) → list_any is_end (if passed then attempt own place alert ∷ [] else []) ≡ false
tick_by own place alert true = refl
tick_by own place alert false = refl

pub tick_end : (own : ℕ) (place : Whereabouts) (alert : Option OwnAlert) (delays : List ℕ) (last at : ℕ) → list_any is_end (at_tick own place alert delays last at) ≡ false
tick_end own place (Some alert) (delay ∷ delays) last at = tick_by own place alert (has_passed delay last at)
tick_end own place (Some alert) [] last at = refl
tick_end own place None delays last at = refl

ack_by : (own : ℕ) (is_on names : Bool) → list_any is_end (if is_on && names then AlertEnded ∷ [] else []) ≡ true → names ≡ true
ack_by own true true h = refl
ack_by own true false h = absurd (false≢true h)
ack_by own false names h = absurd (false≢true h)

heard_ends_none : (own : ℕ) (place : Whereabouts) (places : Places) (c : Call) → list_any is_end (heard_due own (Some place) places c) ≡ true → ⊥
heard_ends_none own place places c h = false≢true (sym (none_heard is_end ends_missed own (Some place) places c) ∙ h)

call_end : (own : ℕ) (place : Whereabouts) (is_on : Bool) (places : Places) (c : Call) → list_any is_end (at_call own place is_on places c) ≡ true → MayEndAlert own (Heard c)
call_end own place is_on places (call.Alert casualty) h = absurd (false≢true h)
call_end own place is_on places (call.Ack from casualty) h = eqb-true casualty.mmsi own (ack_by own is_on (casualty.mmsi == own) h)
call_end own place is_on places (call.Relay to from casualty ask) h = absurd (heard_ends_none own place places (call.Relay to from casualty ask) h)
call_end own place is_on places (call.RelayAck to from casualty) h = absurd (heard_ends_none own place places (call.RelayAck to from casualty) h)
call_end own place is_on places (call.AllShips category from first second f1 f2) h = absurd (heard_ends_none own place places (call.AllShips category from first second f1 f2) h)
call_end own place is_on places (call.AreaCall area category from first second f1 f2) h = absurd (heard_ends_none own place places (call.AreaCall area category from first second f1 f2) h)
call_end own place is_on places (call.GroupCall group category from first second f1 f2) h = absurd (heard_ends_none own place places (call.GroupCall group category from first second f1 f2) h)
call_end own place is_on places (call.Individual to category from first second message end) h = absurd (heard_ends_none own place places (call.Individual to category from first second message end) h)
call_end own place is_on places (call.Service to category from kind) h = absurd (heard_ends_none own place places (call.Service to category from kind) h)

heard_end : (own : ℕ) (place : Whereabouts) (is_on for_it : Bool) (places : Places) (c : Call)
    → list_any is_end (if for_it then at_call own place is_on places c else []) ≡ true → MayEndAlert own (Heard c)
heard_end own place is_on true places c h = call_end own place is_on places c h
heard_end own place is_on false places c h = absurd (false≢true h)

due_end : (who : Identities) (h : History ShipWhat) (at : ℕ) (what : ShipWhat) → list_any is_end (due_at who h at what) ≡ true → MayEndAlert who.own what
due_end who h at (Position position time) end = absurd (false≢true end)
due_end who h at (Delay delay) end = absurd (false≢true end)
due_end who h at (Alert nature comm) end = absurd (false≢true end)
due_end who h at Cancel end = tt
due_end who h at Tick end =
    absurd (false≢true (sym (tick_test is_end ends_missed (at_tick who.own (kept h) (open_alert h) (delays_left h) (last_attempt h) at) at (held h)
    ∙ tick_end who.own (kept h) (open_alert h) (delays_left h) (last_attempt h) at) ∙ end))
due_end who h at (Send c) end = absurd (false≢true (sym (none_sent is_end ends_missed (held h) c) ∙ end))
due_end who h at (Answer number accepts) end = absurd (false≢true (sym (none_replied is_end ends_missed who.own (held h) number accepts) ∙ end))
due_end who h at (Heard c) end = heard_end who.own (kept h) (is_some (open_alert h)) (is_for who h c) (held h) c end

pub ends_by : (who : Identities) (later earlier : History ShipWhat) (ended : Entry ShipWhat) → Legal (ship_rules who) (later ++ ended ∷ earlier)
    → does is_end ended ≡ true → MayEndAlert who.own ended.what
ends_by who later earlier ended legal end =
    let here = legal_before (ship_rules who) later (ended ∷ earlier) legal in
    due_end who earlier ended.at ended.what (subst (λ (acts : List Act). list_any is_end acts ≡ true) here.0.acts end)
