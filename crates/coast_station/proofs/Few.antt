-- at most sixteen casualties are open
use native.Mathlib.Omega.{arith}
use Rattle.std.proofs.Common.{◌≡◌, ℕ, ◌≤◌, ◌==◌, ◌&&◌, not, if◌then◌else◌, Option, Some, None, is_some, is_none, List, [], ◌∷◌, ◌++◌, length, refl, sym, subst, length-append}
use Rattle.std.proofs.lemmas.Bool.{eqb-false}
use Rattle.std.proofs.lemmas.Option.{none-some}
use Rattle.call_values.specs.declared.calls.Call.{Call}
use Rattle.call_values.specs.declared.calls.Call.TheVariants as call
use Rattle.call_values.specs.declared.calls.Casualty.{Casualty}
use Rattle.call_values.specs.declared.choices.Band.{Band}
use Rattle.traffic_rules.specs.declared.acts.Act.{Act}
use Rattle.traffic_rules.specs.declared.refusals.StationRefusal.TheVariants.{Full}
use Rattle.traffic_rules.specs.Histories.{History}
use Rattle.traffic_rules.specs.Holding.{Places}
use Rattle.traffic_rules.specs.Rules.{Legal}
use Rattle.traffic_rules.proofs.PublicLaws.{follows_rules}
use Rattle.coast_station.specs.declared.events.CoastWhat.{CoastWhat}
use Rattle.coast_station.specs.declared.events.CoastWhat.TheVariants.{Accept, Tick, Relay, Send, Answer, Heard}
use Rattle.coast_station.specs.declared.casualties.OpenCasualty.{OpenCasualty}
use Rattle.coast_station.specs.Accepting.{is_of, is_due, is_due_at_once, find_casualty}
use Rattle.coast_station.specs.Casualties.{open_casualties}
use Rattle.coast_station.specs.CoastRules.{Station, held, is_for, refusal_at_call, refusal_at, coast_rules}
use Rattle.coast_station.specs.inside.Afterwards.{after_accept_of, after_call, open_after}
use Rattle.coast_station.specs.inside.Left.{without, replaced, not_due, newly_open, noted_at}
use Rattle.coast_station.proofs.Births.{by_test}
use Rattle.coast_station.proofs.Keeping.{casualties_go_on}

-- there are sixteen of them at most
abbrev IsFew : List OpenCasualty → Type 0
IsFew cs = length cs ≤ 16

without_few : (mmsi : ℕ) (cs : List OpenCasualty) → length (without mmsi cs) ≤ length cs
without_few mmsi [] = omega arith
without_few mmsi (x ∷ cs) =
    let rest = without_few mmsi cs in
    by_test (is_of mmsi x) (λ b. length (if b then cs else x ∷ without mmsi cs) ≤ length (x ∷ cs)) (λ _. omega arith) (λ _. omega (arith, rest))

replaced_few : (mmsi : ℕ) (new : OpenCasualty) (cs : List OpenCasualty) → length (replaced mmsi new cs) ≤ length cs
replaced_few mmsi new [] = omega arith
replaced_few mmsi new (x ∷ cs) =
    let rest = replaced_few mmsi new cs in
    by_test (is_of mmsi x) (λ b. length (if b then new ∷ cs else x ∷ replaced mmsi new cs) ≤ length (x ∷ cs)) (λ _. omega arith) (λ _. omega (arith, rest))

not_due_few : (at : ℕ) (cs : List OpenCasualty) → length (not_due at cs) ≤ length cs
not_due_few at [] = omega arith
not_due_few at (x ∷ cs) =
    let rest = not_due_few at cs in
    by_test (not (is_due at x)) (λ b. length (if b then x ∷ not_due at cs else not_due at cs) ≤ length (x ∷ cs)) (λ _. omega (arith, rest)) (λ _. omega (arith, rest))

accept_few : (band : Band) (at : ℕ) (delay : Option ℕ) (o : Option OpenCasualty) (cs : List OpenCasualty) → length (after_accept_of band at delay o cs) ≤ length cs
accept_few band at delay None cs = omega arith
accept_few band at delay (Some x) cs =
    by_test (is_some x.delay)
    (λ b. length (if b then cs else (if is_due_at_once band at delay x then without x.alert.mmsi cs else replaced x.alert.mmsi (record x { delay = delay }) cs)) ≤ length cs)
    (λ _. omega arith)
    (λ _. by_test (is_due_at_once band at delay x)
    (λ b. length (if b then without x.alert.mmsi cs else replaced x.alert.mmsi (record x { delay = delay }) cs) ≤ length cs)
    (λ _. without_few x.alert.mmsi cs) (λ _. replaced_few x.alert.mmsi (record x { delay = delay }) cs))

-- an alert begins a casualty only where there are fewer
noted_few : (o : Option OpenCasualty) (alert : Casualty) (at : ℕ) (cs : List OpenCasualty) → IsFew cs
    → (if is_none o && (length cs == 16) then Some Full else None) ≡ None → IsFew (noted_at o alert at cs)
noted_few None alert at cs few none =
    by_test (length cs == 16) (λ b. (length cs == 16) ≡ b → (if b then Some Full else None) ≡ None → IsFew (cs ++ newly_open alert at ∷ []))
    (λ _ _ full. absurd (none-some Full (sym full)))
    (λ _ is _. let fewer = eqb-false (length cs) 16 is in omega (arith, few, fewer, length-append cs (newly_open alert at ∷ [])))
    refl none
noted_few (Some x) alert at cs few none =
    let same = replaced_few alert.mmsi (newly_open alert at) cs in
    by_test (is_some x.delay) (λ b. IsFew (if b then cs else replaced alert.mmsi (newly_open alert at) cs)) (λ _. few) (λ _. omega (arith, few, same))

call_few : (at : ℕ) (c : Call) (cs : List OpenCasualty) (places : Places) → IsFew cs → refusal_at_call cs places c ≡ None → IsFew (after_call at c cs)
call_few at (call.Alert alert) cs places few none = noted_few (find_casualty alert.mmsi cs) alert at cs few none
call_few at (call.Ack from closed) cs places few none =
    let less = without_few closed.mmsi cs in
    by_test (is_some (find_casualty closed.mmsi cs)) (λ b. IsFew (if b then without closed.mmsi cs else cs)) (λ _. omega (arith, few, less)) (λ _. few)
call_few at c cs places few none = few

module _ (who : Station) (h : History CoastWhat) (at : ℕ) (few : IsFew (open_casualties who.own h)) where
  abbrev cs : List OpenCasualty
  cs = open_casualties who.own h

  after_few : (what : CoastWhat) → refusal_at who h what ≡ None → IsFew (open_after who at what cs)
  after_few (Accept k delay) none = let less = accept_few who.band at delay (find_casualty k cs) cs in omega (arith, few, less)
  after_few Tick none = let less = not_due_few at cs in omega (arith, few, less)
  after_few (Relay k to ask) none = few
  after_few (Send c) none = few
  after_few (Answer number accepts) none = few
  after_few (Heard c) none =
      by_test (is_for who.own c) (λ b. (if b then refusal_at_call cs (held h) c else None) ≡ None → IsFew (if b then after_call at c cs else cs))
      (λ _ accepted. call_few at c cs (held h) few accepted) (λ _ _. few) none

-- after every legal history
pub few_open : (who : Station) (h : History CoastWhat) → Legal (coast_rules who) h → IsFew (open_casualties who.own h)
few_open who [] legal = omega arith
few_open who (e ∷ h) legal =
    let none = follows_rules (coast_rules who) e h legal.0 in
    subst (λ (acts : List Act). IsFew (open_casualties who.own (record { at = e.at; what = e.what; acts = acts } ∷ h))) (sym legal.0.acts)
    (subst IsFew (sym (casualties_go_on who h e.at e.what legal.1 none)) (after_few who h e.at (few_open who h legal.1) e.what none))
