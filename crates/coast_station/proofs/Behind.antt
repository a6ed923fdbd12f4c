-- an open casualty's alert and the event that accepted it
use Rattle.std.proofs.Common.{◌≡◌, ℕ, ◌==◌, Bool, true, if◌then◌else◌, Option, Some, None, is_some, IfSome, [], ◌∷◌, ◌++◌, refl, sym, ◌∙◌, ap, subst}
use Rattle.std.proofs.lemmas.List.{append_assoc}
use Rattle.std.specs.List.{list_any}
use Rattle.std.proofs.lemmas.Option.{same_Some, none-some}
use Rattle.call_values.specs.Delays.{IsCoastDelay}
use Rattle.call_values.specs.declared.calls.Call.TheVariants as call
use Rattle.call_values.specs.declared.calls.Casualty.{Casualty}
use Rattle.traffic_rules.specs.Histories.{Entry, History, does, last_told, since}
use Rattle.coast_station.specs.declared.events.CoastWhat.{CoastWhat}
use Rattle.coast_station.specs.declared.events.CoastWhat.TheVariants.{Accept, Heard}
use Rattle.coast_station.specs.declared.casualties.OpenCasualty.{OpenCasualty}
use Rattle.coast_station.specs.Acknowledged.{accepts}
use Rattle.coast_station.specs.Casualties.{HeardAlert, where_of, closes, open_with, alert_at, is_alert, delay_at, since_end, since_birth, open_casualty}
use Rattle.coast_station.specs.Events.{IsCoastWhat, alert_in, delay_for}
use Rattle.coast_station.specs.Firsts.{from_first, first_told, before_first}
use Rattle.coast_station.proofs.Births.{by_test, before_none}
use Rattle.coast_station.proofs.Changes.{mapped_some}

-- entries come before others in a history
abbrev pub IsFront : History CoastWhat → History CoastWhat → Type 0
IsFront front h = (rest : History CoastWhat) × (h ≡ front ++ rest)

since_is_front : (p : Entry CoastWhat → Bool) (h : History CoastWhat) → IsFront (since p h) h
since_is_front p [] = ([], refl)
since_is_front p (e ∷ h) =
    by_test (p e) (λ b. IsFront (if b then [] else e ∷ since p h) (e ∷ h)) (λ _. (e ∷ h, refl))
    (λ _. let rest = since_is_front p h in (rest.0, ap (λ g. e ∷ g) rest.1))

from_is_front : (p : Entry CoastWhat → Bool) (h : History CoastWhat) → IsFront (from_first p h) h
from_is_front p [] = ([], refl)
from_is_front p (e ∷ h) =
    by_test (list_any p h) (λ b. IsFront (if b then e ∷ from_first p h else (if p e then e ∷ [] else [])) (e ∷ h))
    (λ _. let rest = from_is_front p h in (rest.0, ap (λ g. e ∷ g) rest.1))
    (λ _. by_test (p e) (λ b. IsFront (if b then e ∷ [] else []) (e ∷ h)) (λ _. (h, refl)) (λ _. (e ∷ h, refl)))

pub birth_is_front : (own m : ℕ) (h : History CoastWhat) → IsFront (since_birth own m h) h
birth_is_front own m h =
    let lived = since_is_front (does (closes m)) h in
    let born = from_is_front (is_alert own m) (since_end m h) in
    (born.0 ++ lived.0, lived.1 ∙ ap (λ g. g ++ lived.0) born.1 ∙ append_assoc (since_birth own m h) born.0 lived.0)

module _ {A : Type 0} (told : Entry CoastWhat → Option A) where
  -- the first entry that says such a thing
  pub record FirstAt (h : History CoastWhat) (x : A) : Type 0 where
    pub later : History CoastWhat
    pub first : Entry CoastWhat
    pub order : h ≡ later ++ first ∷ before_first told h
    pub tells : told first ≡ Some x

  first_by : (e : Entry CoastWhat) (h : History CoastWhat) (x : A) (o : Option A) → first_told told h ≡ o → ((y : A) → o ≡ Some y → FirstAt h y)
      → (if is_some o then o else told e) ≡ Some x → FirstAt (e ∷ h) x
  first_by e h x (Some y) was rest is =
      let same = rest x is in
      let before : before_first told (e ∷ h) ≡ before_first told h = ap (λ o. if is_some o then before_first told h else (if is_some (told e) then h else e ∷ h)) was in
      record { later = e ∷ same.later; first = same.first; order = ap (λ g. e ∷ g) (same.order ∙ ap (λ g. same.later ++ same.first ∷ g) (sym before)); tells = same.tells }
  first_by e h x None was rest is =
      let before : before_first told (e ∷ h) ≡ h =
      ap (λ o. if is_some o then before_first told h else (if is_some (told e) then h else e ∷ h)) was ∙ ap (λ o. if is_some o then h else e ∷ h) is in
      record { later = []; first = e; order = ap (λ g. e ∷ g) (sym before); tells = is }

  pub first_at : (h : History CoastWhat) (x : A) → first_told told h ≡ Some x → FirstAt h x
  first_at [] x is = absurd (none-some _ is)
  first_at (e ∷ h) x is = first_by e h x (first_told told h) refl (first_at h) is

  -- the last entry that says such a thing
  pub record LastAt (h : History CoastWhat) (x : A) : Type 0 where
    pub later : History CoastWhat
    pub last : Entry CoastWhat
    pub before : History CoastWhat
    pub order : h ≡ later ++ last ∷ before
    pub tells : told last ≡ Some x

  last_by : (e : Entry CoastWhat) (h : History CoastWhat) (x : A) (o : Option A) → told e ≡ o → (last_told told h ≡ Some x → LastAt h x)
      → (if is_some o then o else last_told told h) ≡ Some x → LastAt (e ∷ h) x
  last_by e h x (Some y) was rest is = record { later = []; last = e; before = h; order = refl; tells = was ∙ is }
  last_by e h x None was rest is =
      let there = rest is in
      record { later = e ∷ there.later; last = there.last; before = there.before; order = ap (λ g. e ∷ g) there.order; tells = there.tells }

  pub last_at : (h : History CoastWhat) (x : A) → last_told told h ≡ Some x → LastAt h x
  last_at [] x is = absurd (none-some _ is)
  last_at (e ∷ h) x is = last_by e h x (told e) refl (last_at h x) is

-- the alert of an entry at which one is heard
heard_in : (own : ℕ) (what : CoastWhat) (c : Casualty) → alert_in own what ≡ Some c → what ≡ Heard (call.Alert c)
heard_in own (Heard (call.Alert casualty)) c is =
    by_test (casualty.mmsi == own) (λ b. (if b then None else Some casualty) ≡ Some c → Heard (call.Alert casualty) ≡ Heard (call.Alert c))
    (λ _ none. absurd (none-some _ none)) (λ _ same. ap (λ (x : Casualty). Heard (call.Alert x)) (same_Some _ _ same)) is
heard_in own _ c is = absurd (none-some _ is)

in_where : (m : ℕ) (a : Option Casualty) (c : Casualty) → where_of m a ≡ Some c → a ≡ Some c
in_where m None c is = absurd (none-some _ is)
in_where m (Some x) c is =
    by_test (x.mmsi == m) (λ b. (if b then Some x else None) ≡ Some c → Some x ≡ Some c) (λ _ same. same) (λ _ none. absurd (none-some _ none)) is

pub heard_at_entry : (own m : ℕ) (e : Entry CoastWhat) (l : HeardAlert) → alert_at own m e ≡ Some l → (e.what ≡ Heard (call.Alert l.alert)) × (e.at ≡ l.at)
heard_at_entry own m e l is =
    let told = mapped_some _ (where_of m (alert_in own e.what)) l is in (
      subst (λ (c : Casualty). e.what ≡ Heard (call.Alert c)) (ap (λ (x : HeardAlert). x.alert) told.2) (heard_in own e.what told.0 (in_where m (alert_in own e.what) told.0 told.1)),
      ap (λ (x : HeardAlert). x.at) told.2,
    )

-- an event that gives a delay for an identity accepts it, with a delay in its range
pub accepts_with : (m d : ℕ) (what : CoastWhat) → delay_for m what ≡ Some d → IsCoastWhat what → (accepts m what ≡ true) × IsCoastDelay d
accepts_with m d (Accept k delay) is event =
    by_test (k == m) (λ b. (if b then delay else None) ≡ Some d → (b ≡ true) × IsCoastDelay d)
    (λ _ same. (refl, subst (λ (o : Option ℕ). IfSome o IsCoastDelay) same event.1)) (λ _ none. absurd (none-some _ none)) is
accepts_with m d _ is event = absurd (none-some _ is)

-- the alert of an open casualty is in the history, before all that accepted it
pub record HeardBehind (own m : ℕ) (h : History CoastWhat) (x : OpenCasualty) : Type 0 where
  pub between : History CoastWhat
  pub heard : Entry CoastWhat
  pub before : History CoastWhat
  pub order : h ≡ between ++ heard ∷ before
  pub what : heard.what ≡ Heard (call.Alert x.alert)
  pub at : heard.at ≡ x.heard_at
  pub accepted : (d : ℕ) → x.delay ≡ Some d → (later : History CoastWhat) × (accept : Entry CoastWhat) × (rest : History CoastWhat) × (between ≡ later ++ accept ∷ rest) × (delay_at m accept ≡ Some d)

behind_by : (own m : ℕ) (h : History CoastWhat) (x : OpenCasualty) (l : HeardAlert) (delay : Option ℕ) → first_told (delay_at m) (since_birth own m h) ≡ delay
    → LastAt (alert_at own m) (before_first (delay_at m) (since_birth own m h)) l → open_with delay l ≡ x → HeardBehind own m h x
behind_by own m h x l None first last same =
    let front = birth_is_front own m h in
    let what = heard_at_entry own m last.last l last.tells in
    let inside = sym (before_none (delay_at m) (since_birth own m h) first) ∙ last.order in
    record {
      between = last.later;
      heard = last.last;
      before = last.before ++ front.0;
      order = front.1 ∙ ap (λ g. g ++ front.0) inside ∙ append_assoc last.later (last.last ∷ last.before) front.0;
      what = what.0 ∙ ap (λ (y : OpenCasualty). Heard (call.Alert y.alert)) same;
      at = what.1 ∙ ap (λ (y : OpenCasualty). y.heard_at) same;
      accepted = λ d is. absurd (none-some _ (ap (λ (y : OpenCasualty). y.delay) same ∙ is));
    }
behind_by own m h x l (Some d) first last same =
    let front = birth_is_front own m h in
    let what = heard_at_entry own m last.last l last.tells in
    let accept = first_at (delay_at m) (since_birth own m h) d first in
    let inside = accept.order ∙ ap (λ g. accept.later ++ accept.first ∷ g) last.order
    ∙ sym (append_assoc accept.later (accept.first ∷ last.later) (last.last ∷ last.before)) in
    let between = accept.later ++ accept.first ∷ last.later in
    record {
      between = between;
      heard = last.last;
      before = last.before ++ front.0;
      order = front.1 ∙ ap (λ g. g ++ front.0) inside ∙ append_assoc between (last.last ∷ last.before) front.0;
      what = what.0 ∙ ap (λ (y : OpenCasualty). Heard (call.Alert y.alert)) same;
      at = what.1 ∙ ap (λ (y : OpenCasualty). y.heard_at) same;
      accepted = λ e is. (accept.later, accept.first, last.later, refl, accept.tells ∙ ap (λ (y : OpenCasualty). y.delay) same ∙ is);
    }

pub heard_behind : (own m : ℕ) (h : History CoastWhat) (x : OpenCasualty) → open_casualty own m h ≡ Some x → HeardBehind own m h x
heard_behind own m h x is =
    let told = mapped_some _ (last_told (alert_at own m) (before_first (delay_at m) (since_birth own m h))) x is in
    behind_by own m h x told.0 (first_told (delay_at m) (since_birth own m h)) refl
    (last_at (alert_at own m) (before_first (delay_at m) (since_birth own m h)) told.0 told.1) told.2
