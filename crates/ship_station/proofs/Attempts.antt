-- attempts of one distress alert in legal histories
use Rattle.std.proofs.Common.{◌≡◌, ℕ, zero, suc, ◌+◌, ◌-◌, ◌≤◌, Bool, true, false, Option, Some, None, is_some, unwrap_or, if◌then◌else◌, List, [], ◌∷◌, ◌++◌, drop, refl, sym, ◌∙◌, ap, subst, arith}
use Rattle.std.proofs.lemmas.Bool.{false≢true, leb-true, or_parts}
use Rattle.std.specs.List.{list_any, AllByRecursion}
use Rattle.std.specs.Option.{option_to_list}
use Rattle.call_values.specs.Delays.{IsAlertDelay}
use Rattle.traffic_rules.specs.declared.acts.Act.{Act}
use Rattle.traffic_rules.specs.Histories.{Entry, History, does, NoneIs, last_told}
use Rattle.traffic_rules.specs.Moments.{has_passed}
use Rattle.traffic_rules.specs.Rules.{Legal}
use Rattle.traffic_rules.proofs.PublicLaws.{legal_before}
use Rattle.traffic_rules.specs.Hearing.{Whereabouts}
use Rattle.traffic_rules.proofs.PublicLaws.{none_sent, none_replied}
use Rattle.ship_station.specs.declared.events.ShipWhat.{ShipWhat}
use Rattle.ship_station.specs.declared.events.ShipWhat.TheVariants.{Position, Delay, Alert, Cancel, Tick, Send, Answer, Heard}
use Rattle.ship_station.specs.declared.alerts.OwnAlert.{OwnAlert}
use Rattle.ship_station.specs.Events.{IsShipWhat, delay_of, alert_of, begins_alert}
use Rattle.ship_station.specs.Past.{is_attempt, attempt_moment, kept, open_alert, last_attempt, delays_given, delays_used, delays_left}
use Rattle.ship_station.specs.ShipRules.{Identities, attempt, at_tick, held, is_for, due_at, ship_rules}
use Rattle.ship_station.proofs.Traffic.{attempts_missed, tick_test}
use Rattle.ship_station.proofs.Endings.{heard_attempt}

all_append : (xs ys : List ℕ) → AllByRecursion IsAlertDelay xs → AllByRecursion IsAlertDelay ys → AllByRecursion IsAlertDelay (xs ++ ys)
all_append [] ys h k = k
all_append (x ∷ xs) ys h k = (h.0, all_append xs ys h.1 k)

all_drop : (n : ℕ) (xs : List ℕ) → AllByRecursion IsAlertDelay xs → AllByRecursion IsAlertDelay (drop n xs)
all_drop zero xs h = h
all_drop (suc n) [] h = h
all_drop (suc n) (x ∷ xs) h = all_drop n xs h.1

delay_in : (what : ShipWhat) → IsShipWhat what → AllByRecursion IsAlertDelay (option_to_list (delay_of what))
delay_in (Position position time) h = tt
delay_in (Delay delay) h = (h, tt)
delay_in (Alert nature comm) h = tt
delay_in _ h = tt

given_in_range : (who : Identities) (h : History ShipWhat) → Legal (ship_rules who) h → AllByRecursion IsAlertDelay (delays_given h)
given_in_range who [] legal = tt
given_in_range who (e ∷ h) legal = all_append (delays_given h) (option_to_list (delay_of e.what)) (given_in_range who h legal.1) (delay_in e.what legal.0.event)

-- the moment of the last attempt is that of an attempt after which there is none
abbrev told_by : Bool → ℕ → Option ℕ → Option ℕ
told_by b at other = if is_some (if b then Some at else None) then (if b then Some at else None) else other

pub last_is : (between earlier : History ShipWhat) (first : Entry ShipWhat) → does is_attempt first ≡ true → NoneIs (does is_attempt) between
    → last_told attempt_moment (between ++ first ∷ earlier) ≡ Some first.at
last_is [] earlier first attempt none = ap (λ (b : Bool). told_by b first.at (last_told attempt_moment earlier)) attempt
last_is (e ∷ between) earlier first attempt none =
    let parts = or_parts (does is_attempt e) (list_any (does is_attempt) between) none in
    ap (λ (b : Bool). told_by b e.at (last_told attempt_moment (between ++ first ∷ earlier))) parts.0 ∙ last_is between earlier first attempt parts.1

-- an attempt at a tick comes a delay after the last one
passed_by : (own : ℕ) (place : Whereabouts) (alert : OwnAlert) (delay last at : ℕ) (test : Bool) → has_passed delay last at ≡ test
    → list_any is_attempt (if test then attempt own place alert ∷ [] else []) ≡ true → delay ≤ at - last
passed_by own place alert delay last at true is h = leb-true delay (at - last) is
passed_by own place alert delay last at false is h = absurd (false≢true h)

tick_waits : (own : ℕ) (place : Whereabouts) (alert : Option OwnAlert) (delays : List ℕ) (last at : ℕ) → AllByRecursion IsAlertDelay delays
    → list_any is_attempt (at_tick own place alert delays last at) ≡ true → last + 210000 ≤ at
tick_waits own place (Some alert) (delay ∷ delays) last at range h =
    let long = range.0.0 in
    let waited = passed_by own place alert delay last at (has_passed delay last at) refl h in
    omega arith
tick_waits own place (Some alert) [] last at range h = absurd (false≢true h)
tick_waits own place None delays last at range h = absurd (false≢true h)

due_waits : (who : Identities) (h : History ShipWhat) (at : ℕ) (what : ShipWhat) → Legal (ship_rules who) h → is_some (alert_of what) ≡ false
    → list_any is_attempt (due_at who h at what) ≡ true → last_attempt h + 210000 ≤ at
due_waits who h at (Position position time) legal none attempt = absurd (false≢true attempt)
due_waits who h at (Delay delay) legal none attempt = absurd (false≢true attempt)
due_waits who h at (Alert nature comm) legal none attempt = absurd (false≢true (sym none))
due_waits who h at Cancel legal none attempt = absurd (false≢true attempt)
due_waits who h at Tick legal none attempt =
    tick_waits who.own (kept h) (open_alert h) (delays_left h) (last_attempt h) at (all_drop (delays_used h) (delays_given h) (given_in_range who h legal))
    (sym (tick_test is_attempt attempts_missed (at_tick who.own (kept h) (open_alert h) (delays_left h) (last_attempt h) at) at (held h)) ∙ attempt)
due_waits who h at (Send c) legal none attempt = absurd (false≢true (sym (none_sent is_attempt attempts_missed (held h) c) ∙ attempt))
due_waits who h at (Answer number accepts) legal none attempt =
    absurd (false≢true (sym (none_replied is_attempt attempts_missed who.own (held h) number accepts) ∙ attempt))
due_waits who h at (Heard c) legal none attempt =
    absurd (false≢true (sym (heard_attempt who.own (kept h) (is_some (open_alert h)) (is_for who h c) (held h) c) ∙ attempt))

pub apart : (who : Identities) (later between earlier : History ShipWhat) (first second : Entry ShipWhat)
    → Legal (ship_rules who) (later ++ second ∷ (between ++ first ∷ earlier)) → does is_attempt first ≡ true → NoneIs (does is_attempt) between
    → does is_attempt second ≡ true → begins_alert second ≡ false → first.at + 210000 ≤ second.at
apart who later between earlier first second legal one none two same =
    let h = between ++ first ∷ earlier in
    let here = legal_before (ship_rules who) later (second ∷ h) legal in
    let due = subst (λ (acts : List Act). list_any is_attempt acts ≡ true) here.0.acts two in
    subst (λ (o : Option ℕ). unwrap_or o 0 + 210000 ≤ second.at) (last_is between earlier first one none)
    (due_waits who h second.at second.what here.1 same due)
