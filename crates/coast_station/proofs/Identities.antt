-- the identities of the casualties that are born: each is there once, and exactly where its casualty is open
use Rattle.std.proofs.Common.{◌≡◌, ℕ, ◌==◌, ◌&&◌, ◌||◌, not, Bool, true, false, if◌then◌else◌, Option, Some, None, is_some, List, [], ◌∷◌, ◌++◌, refl, sym, ◌∙◌, ap}
use Rattle.std.proofs.lemmas.Bool.{false≢true, true≢false, or_parts, or_from, eqb-true, and_left, and_right}
use Rattle.std.specs.List.{list_any, filter}
use Rattle.std.proofs.Math.Bool.{or-false, and-true, or_assoc}
use Rattle.plain_laws.proofs.Tests.{apart_turned}
use Rattle.call_values.specs.declared.calls.Casualty.{Casualty}
use Rattle.traffic_rules.specs.Histories.{History, does}
use Rattle.coast_station.specs.declared.events.CoastWhat.{CoastWhat}
use Rattle.coast_station.specs.Casualties.{where_of, closes, alert_at, is_alert, delay_at, since_end, is_born, open_casualty, with_alert, born}
use Rattle.coast_station.specs.Events.{alert_in}
use Rattle.coast_station.proofs.Births.{chosen, by_test, after_is_some, some_mapped, goes_on, is_ended, from_none, born_is_open, open_in}

-- an identity is among some
abbrev pub is_among : (mmsi : ℕ) → List ℕ → Bool
is_among mmsi identities = list_any (λ (other : ℕ). other == mmsi) identities

pub among_one_more : (here kept wanted : Bool) (rest all : Bool) → (here ≡ true → kept ≡ wanted) → rest ≡ (all && wanted)
    → (if kept then here || rest else rest) ≡ ((here || all) && wanted)
among_one_more true true true rest all same is = refl
among_one_more true true false rest all same is = absurd (true≢false (same refl))
among_one_more true false true rest all same is = absurd (false≢true (same refl))
among_one_more true false false rest all same is = is ∙ and_right all false refl
among_one_more false true wanted rest all same is = is
among_one_more false false wanted rest all same is = is

-- among those that pass a test
pub among_filter : (keeps : ℕ → Bool) (mmsi : ℕ) (ms : List ℕ) → is_among mmsi (filter keeps ms) ≡ (is_among mmsi ms && keeps mmsi)
among_filter keeps mmsi [] = refl
among_filter keeps mmsi (m ∷ ms) =
    chosen (is_among mmsi) (keeps m) (m ∷ filter keeps ms) (filter keeps ms)
    ∙ among_one_more (m == mmsi) (keeps m) (keeps mmsi) (is_among mmsi (filter keeps ms)) (is_among mmsi ms)
    (λ same. ap keeps (eqb-true m mmsi same)) (among_filter keeps mmsi ms)

pub among_append : (mmsi : ℕ) (ms : List ℕ) (k : ℕ) → is_among mmsi (ms ++ k ∷ []) ≡ (is_among mmsi ms || (k == mmsi))
among_append mmsi [] k = or-false (k == mmsi)
among_append mmsi (m ∷ ms) k = ap (λ b. (m == mmsi) || b) (among_append mmsi ms k) ∙ sym (or_assoc (m == mmsi) (is_among mmsi ms) (k == mmsi))

is_where_of : (mmsi : ℕ) (casualty : Casualty) → is_some (where_of mmsi (Some casualty)) ≡ (casualty.mmsi == mmsi)
is_where_of mmsi casualty = by_test (casualty.mmsi == mmsi) (λ b. is_some (if b then Some casualty else None) ≡ b) (λ _. refl) (λ _. refl)

absorbed : (new other among : Bool) → (other ≡ true → new ≡ among) → new ≡ true → among ≡ (among || other)
absorbed new other true same is = refl
absorbed new true false same is = absurd (true≢false (sym is ∙ same refl))
absorbed new false false same is = refl

-- among identities with that of an alert
pub among_with_alert : (mmsi : ℕ) (alert : Option Casualty) (ms : List ℕ) → is_among mmsi (with_alert alert ms) ≡ (is_among mmsi ms || is_some (where_of mmsi alert))
among_with_alert mmsi None ms = sym (or-false (is_among mmsi ms))
among_with_alert mmsi (Some casualty) ms =
    by_test (is_among casualty.mmsi ms)
    (λ b. is_among casualty.mmsi ms ≡ b → is_among mmsi (if b then ms else ms ++ casualty.mmsi ∷ []) ≡ (is_among mmsi ms || (casualty.mmsi == mmsi)))
    (λ _ old. absorbed (is_among casualty.mmsi ms) (casualty.mmsi == mmsi) (is_among mmsi ms) (λ same. ap (λ (k : ℕ). is_among k ms) (eqb-true casualty.mmsi mmsi same)) old)
    (λ _ _. among_append mmsi ms casualty.mmsi)
    refl
    ∙ ap (λ b. is_among mmsi ms || b) (sym (is_where_of mmsi casualty))

-- an identity is born exactly where its casualty is open
pub born_open : (own mmsi : ℕ) (h : History CoastWhat) → is_among mmsi (born own h) ≡ is_some (open_casualty own mmsi h)
born_open own mmsi [] = refl
born_open own mmsi (e ∷ h) =
    let a = alert_in own e.what in
    let heard = some_mapped (λ (alert : Casualty). record { alert = alert; at = e.at }) (where_of mmsi a) in
    among_filter (λ (m : ℕ). not (does (closes m) e)) mmsi (with_alert a (born own h))
    ∙ by_test (does (closes mmsi) e)
    (λ b. does (closes mmsi) e ≡ b → (is_among mmsi (with_alert a (born own h)) && not b) ≡ is_some (open_casualty own mmsi (e ∷ h)))
    (λ _ ended. and_right (is_among mmsi (with_alert a (born own h))) false refl ∙ sym (ap is_some (is_ended own mmsi e h ended)))
    (λ _ lasts. and-true (is_among mmsi (with_alert a (born own h))) ∙ among_with_alert mmsi a (born own h)
    ∙ ap (λ b. b || is_some (where_of mmsi a)) (born_open own mmsi h)
    ∙ ap (λ b. is_some (open_casualty own mmsi h) || b) (sym heard)
    ∙ sym (ap is_some (goes_on own mmsi e h lasts) ∙ after_is_some (alert_at own mmsi e) (delay_at mmsi e) (open_casualty own mmsi h)))
    refl

-- and exactly where an alert of it was heard since it was last ended
pub open_born : (own mmsi : ℕ) (h : History CoastWhat) → is_some (open_casualty own mmsi h) ≡ is_born own mmsi h
open_born own mmsi h =
    by_test (is_born own mmsi h) (λ b. is_born own mmsi h ≡ b → is_some (open_casualty own mmsi h) ≡ b)
    (λ _ birth. born_is_open own mmsi (since_end mmsi h) birth)
    (λ _ none. ap (λ (g : History CoastWhat). is_some (open_in own mmsi g)) (from_none (is_alert own mmsi) (since_end mmsi h) none))
    refl

-- each identity is there once
abbrev pub AreApart : List ℕ → Type 0
AreApart [] = Unit {0}
AreApart (m ∷ ms) = (is_among m ms ≡ false) × AreApart ms

pub apart_filter : (keeps : ℕ → Bool) (ms : List ℕ) → AreApart ms → AreApart (filter keeps ms)
apart_filter keeps [] apart = tt
apart_filter keeps (m ∷ ms) apart =
    by_test (keeps m) (λ b. AreApart (if b then m ∷ filter keeps ms else filter keeps ms))
    (λ _. (among_filter keeps m ms ∙ and_left (is_among m ms) (keeps m) apart.0, apart_filter keeps ms apart.1))
    (λ _. apart_filter keeps ms apart.1)

apart_append : (k : ℕ) (ms : List ℕ) → is_among k ms ≡ false → AreApart ms → AreApart (ms ++ k ∷ [])
apart_append k [] new apart = (refl, tt)
apart_append k (m ∷ ms) new apart =
    let parts = or_parts (m == k) (is_among k ms) new in
    (among_append m ms k ∙ or_from (is_among m ms) (k == m) apart.0 (apart_turned m k parts.0), apart_append k ms parts.1 apart.1)

apart_with_alert : (alert : Option Casualty) (ms : List ℕ) → AreApart ms → AreApart (with_alert alert ms)
apart_with_alert None ms apart = apart
apart_with_alert (Some casualty) ms apart =
    by_test (is_among casualty.mmsi ms) (λ b. is_among casualty.mmsi ms ≡ b → AreApart (if b then ms else ms ++ casualty.mmsi ∷ []))
    (λ _ _. apart) (λ _ new. apart_append casualty.mmsi ms new apart) refl

-- no two open casualties have one identity
pub born_apart : (own : ℕ) (h : History CoastWhat) → AreApart (born own h)
born_apart own [] = tt
born_apart own (e ∷ h) =
    apart_filter (λ (m : ℕ). not (does (closes m) e)) (with_alert (alert_in own e.what) (born own h))
    (apart_with_alert (alert_in own e.what) (born own h) (born_apart own h))
