-- what is due at a heard call, by who it is addressed to
use Rattle.std.proofs.Common.{◌≡◌, ℕ, ◌==◌, ◌&&◌, not, Bool, true, false, None, is_some, if◌then◌else◌, [], ◌∙◌, ap}
use Rattle.call_values.specs.declared.calls.Call.{Call}
use Rattle.call_values.specs.declared.positions.Fix.{Fix}
use Rattle.std.specs.Prelude.{Option, List}
use Rattle.area_rules.specs.Addressing.{is_for_ship}
use Rattle.traffic_rules.specs.Histories.{History}
use Rattle.call_values.specs.Views.{sender_of}
use Rattle.traffic_rules.specs.Hearing.{heard_refusal}
use Rattle.ship_station.specs.declared.events.ShipWhat.{ShipWhat}
use Rattle.ship_station.specs.declared.events.ShipWhat.TheVariants.{Heard}
use Rattle.ship_station.specs.declared.ships.Ship.{Ship}
use Rattle.ship_station.specs.Past.{kept, open_alert}
use Rattle.ship_station.specs.ShipRules.{Identities, held, is_for, at_call, due_at, refusal_at}
use Rattle.ship_station.specs.StandsFor.{Keeps}

-- a ship judges who a call is for as its history does
pub is_for_by : (who : Identities) (h : History ShipWhat) (ship : Ship) (c : Call) → Keeps ship who h
    → (not (sender_of c == ship.own) && is_for_ship c ship.own ship.groups ship.position) ≡ is_for who h c
is_for_by who h ship c keeps =
    ap (λ (n : ℕ). not (sender_of c == n) && is_for_ship c n ship.groups ship.position) keeps.own
    ∙ ap (λ (g : List ℕ). not (sender_of c == who.own) && is_for_ship c who.own g ship.position) keeps.groups
    ∙ ap (λ (p : Option Fix). not (sender_of c == who.own) && is_for_ship c who.own who.groups p) keeps.position

pub due_for : (who : Identities) (h : History ShipWhat) (at : ℕ) (c : Call) → is_for who h c ≡ true
    → due_at who h at (Heard c) ≡ at_call who.own (kept h) (is_some (open_alert h)) (held h) c
due_for who h at c is = ap (λ (b : Bool). if b then at_call who.own (kept h) (is_some (open_alert h)) (held h) c else []) is

pub due_for_others : (who : Identities) (h : History ShipWhat) (at : ℕ) (c : Call) → is_for who h c ≡ false → due_at who h at (Heard c) ≡ []
due_for_others who h at c is = ap (λ (b : Bool). if b then at_call who.own (kept h) (is_some (open_alert h)) (held h) c else []) is

pub refusal_for : (who : Identities) (h : History ShipWhat) (c : Call) → is_for who h c ≡ true → refusal_at who h (Heard c) ≡ heard_refusal (held h) c
refusal_for who h c is = ap (λ (b : Bool). if b then heard_refusal (held h) c else None) is

pub refusal_for_others : (who : Identities) (h : History ShipWhat) (c : Call) → is_for who h c ≡ false → refusal_at who h (Heard c) ≡ None
refusal_for_others who h c is = ap (λ (b : Bool). if b then heard_refusal (held h) c else None) is
