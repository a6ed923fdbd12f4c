-- one entry more: what it changes of a casualty, and of the identities that are born
use Rattle.std.proofs.Common.{◌≡◌, ℕ, ◌||◌, Bool, true, false, if◌then◌else◌, Option, Some, None, is_some, List, [], ◌∷◌, refl, sym, ◌∙◌, ap}
use Rattle.std.proofs.lemmas.Bool.{false≢true, or_parts, cond-true, cond-false}
use Rattle.std.specs.List.{list_any}
use Rattle.std.specs.Option.{option_map}
use Rattle.std.proofs.lemmas.Option.{none-some}
use Rattle.call_values.specs.declared.calls.Casualty.{Casualty}
use Rattle.traffic_rules.specs.Histories.{Entry, History, does, last_told}
use Rattle.coast_station.specs.declared.events.CoastWhat.{CoastWhat}
use Rattle.coast_station.specs.declared.events.CoastWhat.TheVariants.{Accept, Tick, Relay, Send, Answer, Heard}
use Rattle.coast_station.specs.declared.casualties.OpenCasualty.{OpenCasualty}
use Rattle.coast_station.specs.Casualties.{HeardAlert, where_of, closes, open_with, alert_at, is_alert, delay_at, since_end, open_casualty}
use Rattle.coast_station.specs.Events.{alert_in, delay_for}
use Rattle.coast_station.specs.Firsts.{from_first, first_told, before_first}

-- a function of a choice is the choice of its values
pub chosen : {A B : Type 0} (f : A → B) (b : Bool) (x y : A) → f (if b then x else y) ≡ (if b then f x else f y)
chosen f true x y = refl
chosen f false x y = refl

-- what holds at either outcome of a test holds of it
pub by_test : (b : Bool) (P : Bool → Type 0) → (b ≡ true → P true) → (b ≡ false → P false) → P b
by_test true P at_true at_false = at_true refl
by_test false P at_true at_false = at_false refl

-- where no entry is such, there is none from the first on
pub from_none : (is_such : Entry CoastWhat → Bool) (h : History CoastWhat) → list_any is_such h ≡ false → from_first is_such h ≡ []
from_none is_such [] none = refl
from_none is_such (e ∷ h) none =
    let parts = or_parts (is_such e) (list_any is_such h) none in
    cond-false (list_any is_such h) (e ∷ from_first is_such h) (if is_such e then e ∷ [] else []) parts.1
    ∙ cond-false (is_such e) (e ∷ []) [] parts.0

both_none : {A : Type 0} (first told : Option A) → (if is_some first then first else told) ≡ None → (first ≡ None) × (told ≡ None)
both_none None told none = (refl, none)
both_none (Some x) told none = absurd (none-some _ (sym none))

-- where no entry says such a thing, all come before the first that does
pub before_none : {A : Type 0} (told : Entry CoastWhat → Option A) (h : History CoastWhat) → first_told told h ≡ None → before_first told h ≡ h
before_none told [] none = refl
before_none told (e ∷ h) none =
    let parts = both_none (first_told told h) (told e) none in
    ap (λ o. if is_some o then before_first told h else (if is_some (told e) then h else e ∷ h)) parts.0
    ∙ ap (λ o. if is_some o then h else e ∷ h) parts.1

-- the open casualty by the entries from a birth on
abbrev pub open_in : (own mmsi : ℕ) → History CoastWhat → Option OpenCasualty
open_in own mmsi h =
    option_map (open_with (first_told (delay_at mmsi) h)) (last_told (alert_at own mmsi) (before_first (delay_at mmsi) h))

-- what an alert and a delay make of an open casualty
abbrev pub changed : Option HeardAlert → Option ℕ → OpenCasualty → OpenCasualty
changed heard (Some delay) x = record x { delay = Some delay }
changed (Some heard) None x = open_with None heard
changed None None x = x

abbrev pub after : Option HeardAlert → Option ℕ → Option OpenCasualty → Option OpenCasualty
after heard delay None = option_map (open_with None) heard
after heard delay (Some x) = if is_some x.delay then Some x else Some (changed heard delay x)

pub after_is_some : (heard : Option HeardAlert) (delay : Option ℕ) (o : Option OpenCasualty) → is_some (after heard delay o) ≡ (is_some o || is_some heard)
after_is_some None delay None = refl
after_is_some (Some heard) delay None = refl
after_is_some heard delay (Some x) = by_test (is_some x.delay) (λ b. is_some (if b then Some x else Some (changed heard delay x)) ≡ true) (λ _. refl) (λ _. refl)

pub after_nothing : (o : Option OpenCasualty) → after None None o ≡ o
after_nothing None = refl
after_nothing (Some x) = by_test (is_some x.delay) (λ b. (if b then Some x else Some x) ≡ Some x) (λ _. refl) (λ _. refl)

grown : (first : Option ℕ) (last : Option HeardAlert) (heard : Option HeardAlert) (delay : Option ℕ) (all : Option HeardAlert)
    → (first ≡ None → last ≡ all) → is_some (option_map (open_with first) last) ≡ true
    → option_map (open_with (if is_some first then first else delay)) (if is_some first then last else (if is_some delay then all else (if is_some heard then heard else all)))
    ≡ after heard delay (option_map (open_with first) last)
grown (Some f) (Some l) heard delay all same some = refl
grown (Some f) None heard delay all same some = absurd (false≢true some)
grown None None heard delay all same some = absurd (false≢true some)
grown None (Some l) heard (Some d) all same some = ap (option_map (open_with (Some d))) (sym (same refl))
grown None (Some l) (Some a) None all same some = refl
grown None (Some l) None None all same some = ap (option_map (open_with None)) (sym (same refl))

-- an entry more, after the birth
grows : (own mmsi : ℕ) (e : Entry CoastWhat) (h : History CoastWhat) → is_some (open_in own mmsi h) ≡ true
    → open_in own mmsi (e ∷ h) ≡ after (alert_at own mmsi e) (delay_at mmsi e) (open_in own mmsi h)
grows own mmsi e h some =
    let first = first_told (delay_at mmsi) h in
    let heard = alert_at own mmsi e in
    let delay = delay_at mmsi e in
    let told = last_told (alert_at own mmsi) in
    let before = before_first (delay_at mmsi) h in
    ap (option_map (open_with (if is_some first then first else delay)))
    (chosen told (is_some first) before (if is_some delay then h else e ∷ h)
    ∙ ap (λ o. if is_some first then told before else o) (chosen told (is_some delay) h (e ∷ h)))
    ∙ grown first (told before) heard delay (told h) (λ none. ap told (before_none (delay_at mmsi) h none)) some

-- an event at which an alert is heard accepts none
alert_accepts_none : (own mmsi : ℕ) (what : CoastWhat) → is_some (where_of mmsi (alert_in own what)) ≡ true → delay_for mmsi what ≡ None
alert_accepts_none own mmsi (Accept accepted delay) heard = absurd (false≢true heard)
alert_accepts_none own mmsi Tick heard = refl
alert_accepts_none own mmsi _ heard = refl

pub some_mapped : {A B : Type 0} (f : A → B) (o : Option A) → is_some (option_map f o) ≡ is_some o
some_mapped f None = refl
some_mapped f (Some x) = refl

-- the entry of a birth alone
alone_by : (heard : Option HeardAlert) (delay : Option ℕ) (e : Entry CoastWhat) (told : List (Entry CoastWhat) → Option HeardAlert)
    → told (e ∷ []) ≡ (if is_some heard then heard else None) → delay ≡ None
    → option_map (open_with delay) (told (if is_some delay then [] else e ∷ [])) ≡ option_map (open_with None) heard
alone_by (Some a) delay e told is none = ap (λ d. option_map (open_with d) (told (if is_some d then [] else e ∷ []))) none ∙ ap (option_map (open_with None)) is
alone_by None delay e told is none = ap (λ d. option_map (open_with d) (told (if is_some d then [] else e ∷ []))) none ∙ ap (option_map (open_with None)) is

alone : (own mmsi : ℕ) (e : Entry CoastWhat) → is_alert own mmsi e ≡ true → open_in own mmsi (e ∷ []) ≡ option_map (open_with None) (alert_at own mmsi e)
alone own mmsi e heard =
    let here = sym (some_mapped (λ (alert : Casualty). record { alert = alert; at = e.at }) (where_of mmsi (alert_in own e.what))) ∙ heard in
    alone_by (alert_at own mmsi e) (delay_at mmsi e) e (last_told (alert_at own mmsi)) refl (alert_accepts_none own mmsi e.what here)

-- entries from a birth on give an open casualty
pub born_is_open : (own mmsi : ℕ) (h : History CoastWhat) → list_any (is_alert own mmsi) h ≡ true → is_some (open_in own mmsi (from_first (is_alert own mmsi) h)) ≡ true
born_is_open own mmsi [] birth = absurd (false≢true birth)
born_is_open own mmsi (e ∷ h) birth =
    let is = is_alert own mmsi in
    let from = from_first is h in
    by_test (list_any is h) (λ b. (is e || b) ≡ true → is_some (open_in own mmsi (if b then e ∷ from else (if is e then e ∷ [] else []))) ≡ true)
    (λ before _.
    let some = born_is_open own mmsi h before in
    ap is_some (grows own mmsi e from some) ∙ after_is_some (alert_at own mmsi e) (delay_at mmsi e) (open_in own mmsi from)
    ∙ ap (λ b. b || is e) some)
    (λ _. by_test (is e) (λ b. (b || false) ≡ true → is_some (open_in own mmsi (if b then e ∷ [] else [])) ≡ true)
    (λ here _. ap is_some (alone own mmsi e here) ∙ some_mapped (open_with None) (alert_at own mmsi e) ∙ here)
    (λ _ none. absurd (false≢true none)))
    birth

not_heard : (heard : Option HeardAlert) → is_some heard ≡ false → None ≡ option_map (open_with None) heard
not_heard None other = refl
not_heard (Some a) other = absurd (false≢true (sym other))

-- an entry that doesn't end a casualty
added : (own mmsi : ℕ) (e : Entry CoastWhat) (h : History CoastWhat)
    → open_in own mmsi (from_first (is_alert own mmsi) (e ∷ h)) ≡ after (alert_at own mmsi e) (delay_at mmsi e) (open_in own mmsi (from_first (is_alert own mmsi) h))
added own mmsi e h =
    let is = is_alert own mmsi in
    let from = from_first is h in
    by_test (list_any is h)
    (λ b. list_any is h ≡ b → open_in own mmsi (if b then e ∷ from else (if is e then e ∷ [] else [])) ≡ after (alert_at own mmsi e) (delay_at mmsi e) (open_in own mmsi from))
    (λ _ before. grows own mmsi e from (born_is_open own mmsi h before))
    (λ _ none.
    by_test (is e) (λ b. is e ≡ b → open_in own mmsi (if b then e ∷ [] else []) ≡ after (alert_at own mmsi e) (delay_at mmsi e) None)
    (λ _ here. alone own mmsi e here)
    (λ _ other. not_heard (alert_at own mmsi e) other)
    refl
    ∙ ap (λ (g : History CoastWhat). after (alert_at own mmsi e) (delay_at mmsi e) (open_in own mmsi g)) (sym (from_none is h none)))
    refl

-- what ends no casualty leaves it open, changed by its own alert and delay alone
pub goes_on : (own mmsi : ℕ) (e : Entry CoastWhat) (h : History CoastWhat) → does (closes mmsi) e ≡ false
    → open_casualty own mmsi (e ∷ h) ≡ after (alert_at own mmsi e) (delay_at mmsi e) (open_casualty own mmsi h)
goes_on own mmsi e h lasts =
    ap (λ (g : History CoastWhat). open_in own mmsi (from_first (is_alert own mmsi) g)) (cond-false (does (closes mmsi) e) [] (e ∷ since_end mmsi h) lasts)
    ∙ added own mmsi e (since_end mmsi h)

pub is_ended : (own mmsi : ℕ) (e : Entry CoastWhat) (h : History CoastWhat) → does (closes mmsi) e ≡ true → open_casualty own mmsi (e ∷ h) ≡ None
is_ended own mmsi e h ended =
    ap (λ (g : History CoastWhat). open_in own mmsi (from_first (is_alert own mmsi) g)) (cond-true (does (closes mmsi) e) [] (e ∷ since_end mmsi h) ended)
