-- the delays that are left
use Rattle.std.proofs.Common.{◌≡◌, ℕ, suc, ◌+◌, ◌-◌, ◌<◌, ◌≤◌, Bool, true, false, ◌&&◌, if◌then◌else◌, Option, Some, None, List, [], ◌∷◌, ◌++◌, length, drop, refl, sym, ◌∙◌, ap, subst, arith, length-drop, length-append, append-nil, add-one}
use Rattle.std.proofs.lemmas.Bool.{false≢true, and_parts}
use Rattle.std.proofs.lemmas.List.{drop-append-le, drop-drop}
use Rattle.std.specs.List.{list_any}
use Rattle.std.specs.Option.{option_to_list}
use Rattle.traffic_rules.specs.declared.acts.Act.{Act}
use Rattle.traffic_rules.specs.Histories.{History, does}
use Rattle.traffic_rules.specs.Rules.{Legal}
use Rattle.traffic_rules.specs.Hearing.{Whereabouts}
use Rattle.ship_station.specs.declared.events.ShipWhat.{ShipWhat}
use Rattle.ship_station.specs.declared.events.ShipWhat.TheVariants.{Position, Delay, Alert, Cancel, Tick, Send, Answer, Heard}
use Rattle.ship_station.specs.declared.alerts.OwnAlert.{OwnAlert}
use Rattle.ship_station.specs.Events.{delay_of}
use Rattle.ship_station.specs.Past.{is_attempt, is_tick, kept, open_alert, last_attempt, delays_given, delays_used, delays_left}
use Rattle.ship_station.specs.ShipRules.{Identities, attempt, at_tick, held, due_at, ship_rules}
use Rattle.ship_station.proofs.Traffic.{attempts_missed, tick_test}

-- an attempt at a tick takes a delay that is left
attempt_needs_delay : (own : ℕ) (place : Whereabouts) (alert : Option OwnAlert) (delays : List ℕ) (last at : ℕ) → list_any is_attempt (at_tick own place alert delays last at) ≡ true → 0 < length delays
attempt_needs_delay own place (Some alert) (delay ∷ delays) last at h = omega arith
attempt_needs_delay own place (Some alert) [] last at h = absurd (false≢true h)
attempt_needs_delay own place None delays last at h = absurd (false≢true h)

tick_needs_delay : (who : Identities) (h : History ShipWhat) (at : ℕ) (what : ShipWhat) → is_tick what ≡ true → list_any is_attempt (due_at who h at what) ≡ true → 0 < length (delays_left h)
tick_needs_delay who h at Tick tick attempt =
    attempt_needs_delay who.own (kept h) (open_alert h) (delays_left h) (last_attempt h) at
    (sym (tick_test is_attempt attempts_missed (at_tick who.own (kept h) (open_alert h) (delays_left h) (last_attempt h) at) at (held h)) ∙ attempt)
tick_needs_delay who h at (Position position time) tick attempt = absurd (false≢true tick)
tick_needs_delay who h at _ tick attempt = absurd (false≢true tick)

used_by : (used given more : ℕ) (b : Bool) → used ≤ given → (b ≡ true → 0 < given - used) → (if b then suc used else used) ≤ given + more
used_by used given more true few left = let l = left refl in omega arith
used_by used given more false few left = omega arith

-- no more delays are used than were given
pub used_of_given : (who : Identities) (h : History ShipWhat) → Legal (ship_rules who) h → delays_used h ≤ length (delays_given h)
used_of_given who [] legal = omega arith
used_of_given who (e ∷ h) legal =
    let few = used_of_given who h legal.1 in
    let left : (is_tick e.what && does is_attempt e) ≡ true → 0 < length (delays_given h) - delays_used h =
    λ both.
    let parts = and_parts (is_tick e.what) (does is_attempt e) both in
    let due = subst (λ (acts : List Act). list_any is_attempt acts ≡ true) legal.0.acts parts.1 in
    subst (λ (n : ℕ). 0 < n) (length-drop (delays_used h) (delays_given h)) (tick_needs_delay who h e.at e.what parts.0 due) in
    subst (λ (n : ℕ). delays_used (e ∷ h) ≤ n) (sym (length-append (delays_given h) (option_to_list (delay_of e.what))))
    (used_by (delays_used h) (length (delays_given h)) (length (option_to_list (delay_of e.what))) (is_tick e.what && does is_attempt e) few left)

-- one delay more comes after those that are left
pub delay_put_last : (who : Identities) (h : History ShipWhat) (delay : ℕ) → Legal (ship_rules who) h → drop (delays_used h) (delays_given h ++ delay ∷ []) ≡ delays_left h ++ delay ∷ []
delay_put_last who h delay legal = drop-append-le (delays_used h) (delays_given h) (delay ∷ []) (used_of_given who h legal)

-- one delay more is used: the first of those that are left
pub first_delay_used : (h : History ShipWhat) → drop (suc (delays_used h)) (delays_given h ++ []) ≡ drop 1 (delays_left h)
first_delay_used h =
    ap (drop (suc (delays_used h))) (append-nil (delays_given h)) ∙ sym (drop-drop 1 (delays_used h) (delays_given h) ∙ ap (λ (n : ℕ). drop n (delays_given h)) (add-one (delays_used h)))

-- an event that gives no delay and uses none leaves those that are left
pub none_given_none_used : (h : History ShipWhat) → drop (delays_used h) (delays_given h ++ []) ≡ delays_left h
none_given_none_used h = ap (drop (delays_used h)) (append-nil (delays_given h))
