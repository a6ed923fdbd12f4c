-- what a ship keeps after an event that gives no position and no delay, and begins no alert
use Rattle.std.proofs.Common.{◌≡◌, ℕ, suc, ◌&&◌, Bool, true, false, Option, Some, None, is_some, unwrap_or, List, [], ◌∷◌, ◌++◌, drop, if◌then◌else◌, refl, sym, ◌∙◌, ap}
use Rattle.std.specs.Option.{option_to_list}
use Rattle.traffic_rules.specs.Histories.{Entry, History, does, last_told, since}
use Rattle.traffic_rules.specs.Hearing.{Whereabouts}
use Rattle.ship_station.specs.declared.events.ShipWhat.{ShipWhat}
use Rattle.ship_station.specs.declared.alerts.OwnAlert.{OwnAlert}
use Rattle.ship_station.specs.declared.ships.Ship.{Ship}
use Rattle.ship_station.specs.Events.{whereabouts_of, delay_of, alert_of}
use Rattle.ship_station.specs.Past.{is_attempt, is_end, is_tick, attempt_moment, kept, open_alert, last_attempt, delays_given, delays_used, delays_left}
use Rattle.ship_station.specs.ShipRules.{Identities, held}
use Rattle.ship_station.specs.StandsFor.{Keeps}
use Rattle.ship_station.proofs.Delays.{first_delay_used, none_given_none_used}

-- an event that gives no position and no delay, and begins no alert
pub record IsPlain (what : ShipWhat) : Type 0 where
  pub place : whereabouts_of what ≡ None
  pub delay : delay_of what ≡ None
  pub alert : alert_of what ≡ None

-- what a ship does at such an event, where the alert ends and an attempt is made or not
pub record Moves (old new : Ship) (at : ℕ) (ticks ended tried : Bool) : Type 0 where
  pub own : new.own ≡ old.own
  pub groups : new.groups ≡ old.groups
  pub last : new.last ≡ at
  pub position : new.position ≡ old.position
  pub time : new.time ≡ old.time
  pub alert : new.alert ≡ (if ended then None else old.alert)
  pub attempted : new.attempted_at ≡ (if tried then at else old.attempted_at)
  pub delays : new.delays.items ≡ (if ticks && tried then drop 1 old.delays.items else old.delays.items)

kept_after : (e : Entry ShipWhat) (h : History ShipWhat) → whereabouts_of e.what ≡ None → kept (e ∷ h) ≡ kept h
kept_after e h is =
    ap (λ (o : Option Whereabouts). unwrap_or (if is_some o then o else last_told (λ (x : Entry ShipWhat). whereabouts_of x.what) h) (None, None)) is

open_by : (e : Entry ShipWhat) (h : History ShipWhat) (b : Bool) → alert_of e.what ≡ None
    → last_told (λ (x : Entry ShipWhat). alert_of x.what) (if b then [] else e ∷ since (does is_end) h) ≡ (if b then None else open_alert h)
open_by e h true is = refl
open_by e h false is = ap (λ (o : Option OwnAlert). if is_some o then o else open_alert h) is

open_after : (e : Entry ShipWhat) (h : History ShipWhat) → alert_of e.what ≡ None → open_alert (e ∷ h) ≡ (if does is_end e then None else open_alert h)
open_after e h is = open_by e h (does is_end e) is

attempt_by : (at : ℕ) (other : Option ℕ) (b : Bool)
    → unwrap_or (if is_some (if b then Some at else None) then (if b then Some at else None) else other) 0 ≡ (if b then at else unwrap_or other 0)
attempt_by at other true = refl
attempt_by at other false = refl

attempt_after : (e : Entry ShipWhat) (h : History ShipWhat) → last_attempt (e ∷ h) ≡ (if does is_attempt e then e.at else last_attempt h)
attempt_after e h = attempt_by e.at (last_told attempt_moment h) (does is_attempt e)

delays_by : (h : History ShipWhat) (b : Bool) → drop (if b then suc (delays_used h) else delays_used h) (delays_given h ++ []) ≡ (if b then drop 1 (delays_left h) else delays_left h)
delays_by h true = first_delay_used h
delays_by h false = none_given_none_used h

delays_after : (e : Entry ShipWhat) (h : History ShipWhat) → delay_of e.what ≡ None
    → delays_left (e ∷ h) ≡ (if is_tick e.what && does is_attempt e then drop 1 (delays_left h) else delays_left h)
delays_after e h is =
    ap (λ (o : Option ℕ). drop (delays_used (e ∷ h)) (delays_given h ++ option_to_list o)) is ∙ delays_by h (is_tick e.what && does is_attempt e)

-- after an event a ship keeps what its history then says
pub keeps_after : (who : Identities) (h : History ShipWhat) (e : Entry ShipWhat) (old new : Ship) (ended tried : Bool) → Keeps old who h → IsPlain e.what
    → does is_end e ≡ ended → does is_attempt e ≡ tried → Moves old new e.at (is_tick e.what) ended tried → new.held ≡ held (e ∷ h) → Keeps new who (e ∷ h)
keeps_after who h e old new ended tried keeps plain ends tries moves holds = record {
  own = moves.own ∙ keeps.own;
  groups = moves.groups ∙ keeps.groups;
  last = moves.last;
  position = moves.position ∙ keeps.position ∙ ap (λ (p : Whereabouts). p.0) (sym (kept_after e h plain.place));
  time = moves.time ∙ keeps.time ∙ ap (λ (p : Whereabouts). p.1) (sym (kept_after e h plain.place));
  alert = moves.alert ∙ ap (λ (o : Option OwnAlert). if ended then None else o) keeps.alert
      ∙ sym (open_after e h plain.alert ∙ ap (λ (b : Bool). if b then None else open_alert h) ends);
  attempted = moves.attempted ∙ ap (λ (n : ℕ). if tried then e.at else n) keeps.attempted
      ∙ sym (attempt_after e h ∙ ap (λ (b : Bool). if b then e.at else last_attempt h) tries);
  delays = moves.delays ∙ ap (λ (l : List ℕ). if is_tick e.what && tried then drop 1 l else l) keeps.delays
      ∙ sym (delays_after e h plain.delay ∙ ap (λ (b : Bool). if is_tick e.what && b then drop 1 (delays_left h) else delays_left h) tries);
  held = holds;
}
