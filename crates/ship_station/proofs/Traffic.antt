-- acts of the rules of traffic at a ship: no attempt and no end of the alert
use Rattle.std.proofs.Common.{◌≡◌, ℕ, ◌||◌, Bool, true, false, Option, Some, None, List, [], ◌∷◌, ◌++◌, if◌then◌else◌, refl, ◌∙◌, ap}
use Rattle.std.proofs.Math.Bool.{or-false}
use Rattle.std.specs.List.{list_any}
use Rattle.std.proofs.lemmas.List.Folds.{list_any-append}
use Rattle.call_values.specs.declared.calls.Call.{Call}
use Rattle.call_values.specs.declared.calls.Call.TheVariants as call
use Rattle.call_values.specs.declared.calls.Casualty.{Casualty}
use Rattle.traffic_rules.specs.declared.acts.Act.{Act}
use Rattle.traffic_rules.specs.Holding.{Places}
use Rattle.traffic_rules.specs.Moments.{has_passed}
use Rattle.traffic_rules.specs.Repeating.{repeats}
use Rattle.traffic_rules.specs.Hearing.{Whereabouts, heard_due}
use Rattle.traffic_rules.proofs.PublicLaws.{Misses, none_repeated, AreQuiet}
use Rattle.ship_station.specs.declared.alerts.OwnAlert.{OwnAlert}
use Rattle.call_values.specs.declared.positions.Fix.{Fix}
use Rattle.traffic_rules.specs.Histories.{History}
use Rattle.ship_station.specs.declared.events.ShipWhat.{ShipWhat}
use Rattle.ship_station.specs.declared.ships.Ship.{Ship}
use Rattle.ship_station.specs.Past.{is_attempt, is_end, kept, open_alert, last_attempt, delays_left}
use Rattle.ship_station.specs.ShipRules.{Identities, attempt, at_tick, at_call}
use Rattle.ship_station.specs.StandsFor.{Keeps}

-- acts of traffic are no attempts of an alert
pub attempts_missed : Misses is_attempt
attempts_missed = record { sent = λ c is. refl; shown = refl; held = λ n. refl; answered = λ n. refl; gave_up = λ n. refl; distress = λ c. refl }

-- and no ends of one
pub ends_missed : Misses is_end
ends_missed = record { sent = λ c is. refl; shown = refl; held = λ n. refl; answered = λ n. refl; gave_up = λ n. refl; distress = λ c. refl }

-- a call for the ship that is neither an alert nor its acknowledgement
pub traffic_due : (own : ℕ) (place : Whereabouts) (is_on : Bool) (places : Places) (c : Call) → ((x : Casualty) → c ≡ call.Alert x → ⊥) → ((f : ℕ) (x : Casualty) → c ≡ call.Ack f x → ⊥)
    → at_call own place is_on places c ≡ heard_due own (Some place) places c
traffic_due own place is_on places (call.Alert casualty) no_alert no_ack = absurd (no_alert casualty refl)
traffic_due own place is_on places (call.Ack from casualty) no_alert no_ack = absurd (no_ack from casualty refl)
traffic_due own place is_on places (call.Relay to from casualty ask) no_alert no_ack = refl
traffic_due own place is_on places _ no_alert no_ack = refl

-- an attempt at a tick mentions no number of a held call
passed_quiet : (own : ℕ) (place : Whereabouts) (alert : OwnAlert) (passed : Bool) → AreQuiet (if passed then attempt own place alert ∷ [] else [])
passed_quiet own place alert true = record { begin = λ k. refl; end = λ k. refl }
passed_quiet own place alert false = record { begin = λ k. refl; end = λ k. refl }

-- the acts of a tick are no acts of traffic
pub tick_quiet : (own : ℕ) (place : Whereabouts) (alert : Option OwnAlert) (delays : List ℕ) (last at : ℕ) → AreQuiet (at_tick own place alert delays last at)
tick_quiet own place (Some alert) (delay ∷ delays) last at = passed_quiet own place alert (has_passed delay last at)
tick_quiet own place (Some alert) [] last at = record { begin = λ k. refl; end = λ k. refl }
tick_quiet own place None delays last at = record { begin = λ k. refl; end = λ k. refl }

-- the held calls that are repeated at a tick are no attempts, and end no alert
pub tick_test : (p : Act → Bool) → Misses p → (front : List Act) (at : ℕ) (places : Places) → list_any p (front ++ repeats at 1 places) ≡ list_any p front
tick_test p missed front at places =
    list_any-append p front (repeats at 1 places) ∙ ap (λ (b : Bool). list_any p front || b) (none_repeated p missed at 1 places) ∙ or-false (list_any p front)

-- what is due of a ship's alert at a tick is what its history says
pub tick_same : (who : Identities) (h : History ShipWhat) (ship : Ship) (at : ℕ) → Keeps ship who h
    → at_tick ship.own (ship.position, ship.time) ship.alert ship.delays.items ship.attempted_at at
    ≡ at_tick who.own (kept h) (open_alert h) (delays_left h) (last_attempt h) at
tick_same who h ship at keeps =
    ap (λ (n : ℕ). at_tick n (ship.position, ship.time) ship.alert ship.delays.items ship.attempted_at at) keeps.own
    ∙ ap (λ (p : Option Fix). at_tick who.own (p, ship.time) ship.alert ship.delays.items ship.attempted_at at) keeps.position
    ∙ ap (λ (t : Option (ℕ × ℕ)). at_tick who.own ((kept h).0, t) ship.alert ship.delays.items ship.attempted_at at) keeps.time
    ∙ ap (λ (o : Option OwnAlert). at_tick who.own (kept h) o ship.delays.items ship.attempted_at at) keeps.alert
    ∙ ap (λ (l : List ℕ). at_tick who.own (kept h) (open_alert h) l ship.attempted_at at) keeps.delays
    ∙ ap (λ (n : ℕ). at_tick who.own (kept h) (open_alert h) (delays_left h) n at) keeps.attempted
