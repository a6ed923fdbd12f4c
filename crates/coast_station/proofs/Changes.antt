-- what each event changes of the open casualties
use Rattle.std.proofs.Common.{◌≡◌, ℕ, ◌==◌, ◌&&◌, ◌||◌, not, Bool, true, false, if◌then◌else◌, Option, Some, None, is_some, List, [], ◌∷◌, ◌++◌, map, refl, sym, ◌∙◌, ap}
use Rattle.std.proofs.lemmas.Bool.{eqb-true, eq-eqb, cond-true, cond-false, not-true, not_from_true, not_from_false}
use Rattle.std.proofs.lemmas.List.Folds.{list_any-append}
use Rattle.std.specs.List.{list_any, filter}
use Rattle.std.specs.Option.{option_map, option_to_list}
use Rattle.std.proofs.lemmas.Option.{same_Some, none-some}
use Rattle.plain_laws.proofs.Tests.{or_false_right, apart_turned}
use Rattle.call_values.specs.declared.calls.Call.TheVariants as call
use Rattle.call_values.specs.declared.calls.Casualty.{Casualty}
use Rattle.traffic_rules.specs.declared.acts.Act.{Act}
use Rattle.traffic_rules.specs.Histories.{Entry, History, does, last_told}
use Rattle.coast_station.specs.declared.events.CoastWhat.{CoastWhat}
use Rattle.coast_station.specs.declared.events.CoastWhat.TheVariants.{Accept, Heard}
use Rattle.coast_station.specs.declared.casualties.OpenCasualty.{OpenCasualty}
use Rattle.coast_station.specs.Accepting.{is_due, find_casualty, acknowledgement, acknowledgements_due}
use Rattle.coast_station.specs.Casualties.{HeardAlert, where_of, closes, alert_at, delay_at, since_birth, open_casualty, with_alert, born, open_casualties}
use Rattle.coast_station.specs.Events.{alert_in, delay_for}
use Rattle.coast_station.specs.Firsts.{before_first}
use Rattle.coast_station.specs.inside.Left.{without, replaced, not_due, newly_open, noted_at, noted}
use Rattle.coast_station.proofs.Births.{by_test, chosen, after, after_nothing, changed, goes_on}
use Rattle.coast_station.proofs.Identities.{is_among, among_one_more, born_open, born_apart}
use Rattle.coast_station.proofs.Listed.{listed_of, AreNamed, find_listed, same_listed, others_listed, one_replaced, one_without, due_left}

pub mapped_some : {A B : Type 0} (f : A → B) (o : Option A) (y : B) → option_map f o ≡ Some y → (x : A) × (o ≡ Some x) × (f x ≡ y)
mapped_some f None y is = absurd (none-some _ is)
mapped_some f (Some x) y is = (x, refl, same_Some _ _ is)

-- a casualty has the identity under which it is open
named_where : (mmsi : ℕ) (a : Option Casualty) (c : Casualty) → where_of mmsi a ≡ Some c → c.mmsi ≡ mmsi
named_where mmsi None c is = absurd (none-some _ is)
named_where mmsi (Some a) c is =
    by_test (a.mmsi == mmsi) (λ b. (a.mmsi == mmsi) ≡ b → (if b then Some a else None) ≡ Some c → c.mmsi ≡ mmsi)
    (λ _ same here. ap (λ (x : Casualty). x.mmsi) (sym (same_Some _ _ here)) ∙ eqb-true a.mmsi mmsi same) (λ _ _ here. absurd (none-some _ here)) refl is

named_alert : (own mmsi : ℕ) (e : Entry CoastWhat) (l : HeardAlert) → alert_at own mmsi e ≡ Some l → l.alert.mmsi ≡ mmsi
named_alert own mmsi e l is =
    let told = mapped_some _ (where_of mmsi (alert_in own e.what)) l is in
    ap (λ (x : HeardAlert). x.alert.mmsi) (sym told.2) ∙ named_where mmsi (alert_in own e.what) told.0 told.1

named_by : (own mmsi : ℕ) (e : Entry CoastWhat) (o rest : Option HeardAlert) (l : HeardAlert) → alert_at own mmsi e ≡ o → (rest ≡ Some l → l.alert.mmsi ≡ mmsi)
    → (if is_some o then o else rest) ≡ Some l → l.alert.mmsi ≡ mmsi
named_by own mmsi e None rest l was before is = before is
named_by own mmsi e (Some a) rest l was before is = named_alert own mmsi e l (was ∙ is)

named_told : (own mmsi : ℕ) (h : History CoastWhat) (l : HeardAlert) → last_told (alert_at own mmsi) h ≡ Some l → l.alert.mmsi ≡ mmsi
named_told own mmsi [] l is = absurd (none-some _ is)
named_told own mmsi (e ∷ h) l is = named_by own mmsi e (alert_at own mmsi e) (last_told (alert_at own mmsi) h) l refl (named_told own mmsi h l) is

-- an identity's open casualty has this identity
pub named : (own : ℕ) (h : History CoastWhat) → AreNamed (λ m. open_casualty own m h)
named own h m x is =
    let told = mapped_some _ (last_told (alert_at own m) (before_first (delay_at m) (since_birth own m h))) x is in
    ap (λ (y : OpenCasualty). y.alert.mmsi) (sym told.2) ∙ named_told own m (before_first (delay_at m) (since_birth own m h)) told.0 told.1

where_some : (o : Option OpenCasualty) → (if is_some o then o else None) ≡ o
where_some None = refl
where_some (Some x) = refl

-- the casualty of an identity is found in the list
pub find_open : (own k : ℕ) (h : History CoastWhat) → find_casualty k (open_casualties own h) ≡ open_casualty own k h
find_open own k h =
    find_listed (λ m. open_casualty own m h) k (born own h) (named own h)
    ∙ ap (λ b. if b then open_casualty own k h else None) (born_open own k h) ∙ where_some (open_casualty own k h)

-- acts of which none ends a casualty
abbrev pub EndsNone : List Act → Type 0
EndsNone acts = (m : ℕ) → list_any (closes m) acts ≡ false

keeps_each : (keeps : ℕ → Bool) (ms : List ℕ) → ((m : ℕ) → keeps m ≡ true) → filter keeps ms ≡ ms
keeps_each keeps [] each = refl
keeps_each keeps (m ∷ ms) each = cond-true (keeps m) (m ∷ filter keeps ms) (filter keeps ms) (each m) ∙ ap (λ xs. m ∷ xs) (keeps_each keeps ms each)

abbrev pub is_due_open : (at : ℕ) → Option OpenCasualty → Bool
is_due_open at None = false
is_due_open at (Some x) = is_due at x

module _ (own : ℕ) (e : Entry CoastWhat) (h : History CoastWhat) where
  abbrev was : ℕ → Option OpenCasualty
  was m = open_casualty own m h

  abbrev is_now : ℕ → Option OpenCasualty
  is_now m = open_casualty own m (e ∷ h)

  born_on : EndsNone e.acts → born own (e ∷ h) ≡ with_alert (alert_in own e.what) (born own h)
  born_on silent =
      keeps_each (λ (m : ℕ). not (does (closes m) e)) (with_alert (alert_in own e.what) (born own h)) (λ m. not_from_false (does (closes m) e) (silent m))

  -- without an alert the same identities are born
  born_same : EndsNone e.acts → alert_in own e.what ≡ None → born own (e ∷ h) ≡ born own h
  born_same silent none = born_on silent ∙ ap (λ (a : Option Casualty). with_alert a (born own h)) none

  -- without an alert and a delay a casualty goes on as it was
  unchanged : (m : ℕ) → does (closes m) e ≡ false → where_of m (alert_in own e.what) ≡ None → delay_for m e.what ≡ None → is_now m ≡ was m
  unchanged m lasts no_alert no_delay =
      goes_on own m e h lasts
      ∙ ap (λ (a : Option Casualty). after (option_map (λ (alert : Casualty). record { alert = alert; at = e.at }) a) (delay_for m e.what) (was m)) no_alert
      ∙ ap (λ (d : Option ℕ). after None d (was m)) no_delay ∙ after_nothing (was m)

  pub silent_open : EndsNone e.acts → alert_in own e.what ≡ None → ((m : ℕ) → delay_for m e.what ≡ None) → open_casualties own (e ∷ h) ≡ open_casualties own h
  silent_open silent no_alert no_delay =
      ap (listed_of is_now) (born_same silent no_alert)
      ∙ same_listed was is_now (born own h) (λ m. unchanged m (silent m) (ap (where_of m) no_alert) (no_delay m))

  -- the casualty of an identity is ended, and no other
  pub closed_open : (k : ℕ) (x : OpenCasualty) → was k ≡ Some x → ((m : ℕ) → list_any (closes m) e.acts ≡ (k == m)) → alert_in own e.what ≡ None
      → ((m : ℕ) → (m == k) ≡ false → delay_for m e.what ≡ None) → open_casualties own (e ∷ h) ≡ without k (open_casualties own h)
  closed_open k x open_k ended no_alert no_delay =
      let keeps : ℕ → Bool = λ m. not (does (closes m) e) in
      let lasts : (m : ℕ) → (m == k) ≡ false → does (closes m) e ≡ false = λ m other. ended m ∙ apart_turned m k other in
      ap (λ (a : Option Casualty). listed_of is_now (filter keeps (with_alert a (born own h)))) no_alert
      ∙ one_without was is_now keeps k x (born own h) (born_apart own h) (named own h)
      (λ m other. unchanged m (lasts m other) (ap (where_of m) no_alert) (no_delay m other)) open_k
      (not_from_true (does (closes k) e) (ended k ∙ eq-eqb k k refl)) (λ m other. not_from_false (does (closes m) e) (lasts m other))

  -- at a tick those that are due are ended
  pub due_open : (at : ℕ) → ((m : ℕ) → list_any (closes m) e.acts ≡ is_due_open at (was m)) → alert_in own e.what ≡ None → ((m : ℕ) → delay_for m e.what ≡ None)
      → open_casualties own (e ∷ h) ≡ not_due at (open_casualties own h)
  due_open at ended no_alert no_delay =
      let keeps : ℕ → Bool = λ m. not (does (closes m) e) in
      ap (λ (a : Option Casualty). listed_of is_now (filter keeps (with_alert a (born own h)))) no_alert
      ∙ due_left was is_now at keeps (born own h) (λ m x is. ap not (ended m ∙ ap (is_due_open at) is))
      (λ m kept. unchanged m (not-true (does (closes m) e) kept) (ap (where_of m) no_alert) (no_delay m))

append_once : (o : Option OpenCasualty) (xs : List OpenCasualty) (x : OpenCasualty) → (option_to_list o ++ xs) ++ x ∷ [] ≡ option_to_list o ++ (xs ++ x ∷ [])
append_once None xs x = refl
append_once (Some y) xs x = refl

-- an alert that is heard
listed_append : (told : ℕ → Option OpenCasualty) (ms : List ℕ) (k : ℕ) (x : OpenCasualty) → told k ≡ Some x → listed_of told (ms ++ k ∷ []) ≡ listed_of told ms ++ x ∷ []
listed_append told [] k x is = ap (λ (o : Option OpenCasualty). option_to_list o ++ []) is
listed_append told (m ∷ ms) k x is = ap (λ xs. option_to_list (told m) ++ xs) (listed_append told ms k x is) ∙ sym (append_once (told m) (listed_of told ms) x)

module _ (own at : ℕ) (alert : Casualty) (acts : List Act) (h : History CoastWhat) where
  abbrev heard : Entry CoastWhat
  heard = record { at = at; what = Heard (call.Alert alert); acts = acts }

  abbrev new : OpenCasualty
  new = newly_open alert at

  abbrev before : ℕ → Option OpenCasualty
  before m = open_casualty own m h

  abbrev behind : ℕ → Option OpenCasualty
  behind m = open_casualty own m (heard ∷ h)

  another : (alert.mmsi == own) ≡ false → alert_in own heard.what ≡ Some alert
  another is = cond-false (alert.mmsi == own) None (Some alert) is

  others : (alert.mmsi == own) ≡ false → EndsNone acts → (m : ℕ) → (m == alert.mmsi) ≡ false → behind m ≡ before m
  others is silent m other =
      unchanged own heard h m (silent m)
      (ap (where_of m) (another is) ∙ cond-false (alert.mmsi == m) (Some alert) None (apart_turned m alert.mmsi other)) refl

  this : (alert.mmsi == own) ≡ false → EndsNone acts → behind alert.mmsi ≡ after (Some (record { alert = alert; at = at })) None (before alert.mmsi)
  this is silent =
      goes_on own alert.mmsi heard h (silent alert.mmsi)
      ∙ ap (λ (a : Option Casualty). after (option_map (λ (c : Casualty). record { alert = c; at = at }) a) None (before alert.mmsi))
      (ap (where_of alert.mmsi) (another is) ∙ cond-true (alert.mmsi == alert.mmsi) (Some alert) None (eq-eqb alert.mmsi alert.mmsi refl))

  noted_by : (o : Option OpenCasualty) → before alert.mmsi ≡ o → (alert.mmsi == own) ≡ false → EndsNone acts
      → listed_of behind (with_alert (Some alert) (born own h)) ≡ noted_at o alert at (open_casualties own h)
  noted_by None was is silent =
      let new_one : is_among alert.mmsi (born own h) ≡ false = born_open own alert.mmsi h ∙ ap is_some was in
      ap (listed_of behind) (cond-false (is_among alert.mmsi (born own h)) (born own h) (born own h ++ alert.mmsi ∷ []) new_one)
      ∙ listed_append behind (born own h) alert.mmsi new (this is silent ∙ ap (after (Some (record { alert = alert; at = at })) None) was)
      ∙ ap (λ xs. xs ++ new ∷ []) (others_listed before behind alert.mmsi (born own h) new_one (others is silent))
  noted_by (Some x) was is silent =
      let old_one : is_among alert.mmsi (born own h) ≡ true = born_open own alert.mmsi h ∙ ap is_some was in
      let here = this is silent ∙ ap (after (Some (record { alert = alert; at = at })) None) was in
      ap (listed_of behind) (cond-true (is_among alert.mmsi (born own h)) (born own h) (born own h ++ alert.mmsi ∷ []) old_one)
      ∙ by_test (is_some x.delay)
      (λ b. behind alert.mmsi ≡ (if b then Some x else Some new) → listed_of behind (born own h) ≡ (if b then open_casualties own h else replaced alert.mmsi new (open_casualties own h)))
      (λ _ stays. same_listed before behind (born own h) (λ m.
      by_test (m == alert.mmsi) (λ b. (m == alert.mmsi) ≡ b → behind m ≡ before m)
      (λ _ same. let equal = eqb-true m alert.mmsi same in ap behind equal ∙ stays ∙ sym was ∙ sym (ap before equal))
      (λ _ other. others is silent m other) refl))
      (λ _ changes. one_replaced before behind alert.mmsi x new (born own h) (born_apart own h) (named own h) (others is silent) was changes)
      here

  pub noted_open : (alert.mmsi == own) ≡ false → EndsNone acts → open_casualties own (heard ∷ h) ≡ noted alert at (open_casualties own h)
  noted_open is silent =
      ap (listed_of behind) (born_on own heard h silent ∙ ap (λ (a : Option Casualty). with_alert a (born own h)) (another is))
      ∙ noted_by (before alert.mmsi) refl is silent
      ∙ ap (λ (o : Option OpenCasualty). noted_at o alert at (open_casualties own h)) (sym (find_open own alert.mmsi h))

-- an alert that is accepted
module _ (own at k : ℕ) (h : History CoastWhat) (x : OpenCasualty) where
  abbrev accepting : (delay : Option ℕ) → (acts : List Act) → Entry CoastWhat
  accepting delay acts = record { at = at; what = Accept k delay; acts = acts }

  no_delay : (delay : Option ℕ) (m : ℕ) → (m == k) ≡ false → delay_for m (Accept k delay) ≡ None
  no_delay delay m other = cond-false (k == m) delay None (apart_turned m k other)

  pub accepted_open : (delay : ℕ) → open_casualty own k h ≡ Some x → x.delay ≡ None
      → open_casualties own (accepting (Some delay) [] ∷ h) ≡ replaced k (record x { delay = Some delay }) (open_casualties own h)
  accepted_open delay was new =
      let e = accepting (Some delay) [] in
      let here : open_casualty own k (e ∷ h) ≡ Some (record x { delay = Some delay }) =
      goes_on own k e h refl ∙ ap (λ (d : Option ℕ). after None d (open_casualty own k h)) (cond-true (k == k) (Some delay) None (eq-eqb k k refl))
      ∙ ap (after None (Some delay)) was
      ∙ ap (λ (d : Option ℕ). if is_some d then Some x else Some (record x { delay = Some delay })) new in
      ap (listed_of (λ m. open_casualty own m (e ∷ h))) (born_same own e h (λ _. refl) refl)
      ∙ one_replaced (λ m. open_casualty own m h) (λ m. open_casualty own m (e ∷ h)) k x (record x { delay = Some delay }) (born own h) (born_apart own h) (named own h)
      (λ m other. unchanged own e h m refl refl (no_delay (Some delay) m other)) was here

  pub accepted_before : (delay : Option ℕ) → open_casualty own k h ≡ Some x → is_some x.delay ≡ true
      → open_casualties own (accepting delay [] ∷ h) ≡ open_casualties own h
  accepted_before delay was old =
      let e = accepting delay [] in
      ap (listed_of (λ m. open_casualty own m (e ∷ h))) (born_same own e h (λ _. refl) refl)
      ∙ same_listed (λ m. open_casualty own m h) (λ m. open_casualty own m (e ∷ h)) (born own h) (λ m.
      by_test (m == k) (λ b. (m == k) ≡ b → open_casualty own m (e ∷ h) ≡ open_casualty own m h)
      (λ _ same.
      let was_m = ap (λ (n : ℕ). open_casualty own n h) (eqb-true m k same) ∙ was in
      goes_on own m e h refl ∙ ap (after None (delay_for m (Accept k delay))) was_m
      ∙ cond-true (is_some x.delay) (Some x) (Some (changed None (delay_for m (Accept k delay)) x)) old ∙ sym was_m)
      (λ _ other. unchanged own e h m refl refl (no_delay delay m other)) refl)

  pub acknowledged_open : (delay : Option ℕ) (acts : List Act) → open_casualty own k h ≡ Some x → ((m : ℕ) → list_any (closes m) acts ≡ (k == m))
      → open_casualties own (accepting delay acts ∷ h) ≡ without k (open_casualties own h)
  acknowledged_open delay acts was ended = closed_open own (accepting delay acts) h k x was ended refl (no_delay delay)

-- which casualties the acknowledgements of a tick end
abbrev acknowledged : (own : ℕ) → List OpenCasualty → List Act
acknowledged own xs = map (λ (x : OpenCasualty). acknowledgement own x.alert) xs

due_by : (own at m k : ℕ) (told : ℕ → Option OpenCasualty) (ms : List ℕ) (o : Option OpenCasualty) → AreNamed told → told k ≡ o
    → list_any (closes m) (acknowledgements_due own at (listed_of told ms)) ≡ (is_among m ms && is_due_open at (told m))
    → list_any (closes m) (acknowledgements_due own at (option_to_list o ++ listed_of told ms)) ≡ (((k == m) || is_among m ms) && is_due_open at (told m))
due_by own at m k told ms None names was rest =
    among_one_more (k == m) false (is_due_open at (told m)) (list_any (closes m) (acknowledgements_due own at (listed_of told ms))) (is_among m ms)
    (λ same. ap (is_due_open at) (sym was ∙ ap told (eqb-true k m same))) rest
due_by own at m k told ms (Some x) names was rest =
    chosen (λ xs. list_any (closes m) (acknowledged own xs)) (is_due at x) (x ∷ filter (is_due at) (listed_of told ms)) (filter (is_due at) (listed_of told ms))
    ∙ ap (λ b. if is_due at x then b || list_any (closes m) (acknowledgements_due own at (listed_of told ms)) else list_any (closes m) (acknowledgements_due own at (listed_of told ms)))
    (ap (λ (n : ℕ). n == m) (names k x was))
    ∙ among_one_more (k == m) (is_due at x) (is_due_open at (told m)) (list_any (closes m) (acknowledgements_due own at (listed_of told ms))) (is_among m ms)
    (λ same. ap (is_due_open at) (sym was ∙ ap told (eqb-true k m same))) rest

pub any_due : (own at m : ℕ) (told : ℕ → Option OpenCasualty) (ms : List ℕ) → AreNamed told
    → list_any (closes m) (acknowledgements_due own at (listed_of told ms)) ≡ (is_among m ms && is_due_open at (told m))
any_due own at m told [] names = refl
any_due own at m told (k ∷ ms) names = due_by own at m k told ms (told k) names refl (any_due own at m told ms names)

both_due : (at : ℕ) (o : Option OpenCasualty) → (is_some o && is_due_open at o) ≡ is_due_open at o
both_due at None = refl
both_due at (Some x) = refl

pub tick_ends : (own at m : ℕ) (h : History CoastWhat) (others : List Act) → list_any (closes m) others ≡ false
    → list_any (closes m) (acknowledgements_due own at (open_casualties own h) ++ others) ≡ is_due_open at (open_casualty own m h)
tick_ends own at m h others none =
    list_any-append (closes m) (acknowledgements_due own at (open_casualties own h)) others
    ∙ or_false_right (list_any (closes m) (acknowledgements_due own at (open_casualties own h))) (list_any (closes m) others) none
    ∙ any_due own at m (λ k. open_casualty own k h) (born own h) (named own h)
    ∙ ap (λ b. b && is_due_open at (open_casualty own m h)) (born_open own m h) ∙ both_due at (open_casualty own m h)
