-- splits of the histories of both ends, in that of the exchange
use Rattle.std.proofs.Common.{◌≡◌, ℕ, inl, inr, ◌&&◌, Bool, true, Option, Some, None, List, [], ◌∷◌, ◌++◌, slice_get, refl, ◌∙◌, ap}
use Rattle.std.proofs.lemmas.Bool.{false≢true, or_left, or_right, or_cases}
use Rattle.std.specs.List.{list_any}
use Rattle.std.specs.Option.{option_map}
use Rattle.std.proofs.lemmas.Option.{none-some, same_Some}
use mathlib.Core.List.{head-eq_of_cons-eq, tail-eq_of_cons-eq}
use Rattle.call_values.specs.declared.calls.Call.{Call}
use Rattle.traffic_rules.specs.Histories.{Entry, History}
use Rattle.ship_station.specs.declared.events.ShipWhat.{ShipWhat}
use Rattle.coast_station.specs.declared.events.CoastWhat.{CoastWhat}
use Rattle.coast_station.specs.declared.events.CoastWhat.TheVariants as at_coast
use Rattle.coast_station.specs.Acknowledged.{accepts}
use Rattle.exchange.specs.declared.events.WorldEvent.{WorldEvent}
use Rattle.exchange.specs.declared.events.WorldEvent.TheVariants as world
use Rattle.exchange.specs.AlertEnds.{is_accepted, is_accept_event, accepts_casualty}
use Rattle.exchange.specs.Sent.{sent_by}
use Rattle.exchange.specs.WorldHistories.{Given, did, refuses, nothing, WorldEntry, WorldHistory, entry_of, with_entry, coast_what, ship_entry, coast_entry, histories_of}

-- a split of the coast station's history at an entry, in that of the exchange
pub record Lifted (w : WorldHistory) (front back : History CoastWhat) (x : Entry CoastWhat) (mmsi : ℕ) : Type 0 where
  pub later : WorldHistory
  pub here : WorldEntry
  pub earlier : WorldHistory
  pub order : w ≡ later ++ here ∷ earlier
  pub entry : coast_entry (histories_of earlier) here ≡ Some x
  pub rest : (histories_of earlier).coast ≡ back
  pub accepted : list_any (λ (e : Entry CoastWhat). accepts mmsi e.what) front ≡ true → list_any (accepts_casualty mmsi) later ≡ true

nil_is_split : {What : Type 0} (front back : History What) (x : Entry What) → [] ≡ front ++ x ∷ back → ⊥
nil_is_split [] back x h = cc
nil_is_split (f ∷ front) back x h = cc

-- an accepted event that accepts a casualty does so in the exchange
heard_accepts : (mmsi at : ℕ) (o : Option Call) (g : Given) (y : Entry CoastWhat)
    → entry_of (option_map (λ (call : Call). (at, at_coast.Heard call)) o) g ≡ Some y → accepts mmsi y.what ≡ true → ⊥
heard_accepts mmsi at None g y is h = none-some y is
heard_accepts mmsi at (Some c) (did acts) y is h =
    false≢true (ap (λ (e : Entry CoastWhat). accepts mmsi e.what) (same_Some (record { at = at; what = at_coast.Heard c; acts = acts }) y is) ∙ h)
heard_accepts mmsi at (Some c) _ y is h = none-some y is

pub accepted_there : (mmsi : ℕ) (calls : List Call) (event : WorldEvent) (g : Given) (y : Entry CoastWhat) → entry_of (coast_what calls event) g ≡ Some y
    → accepts mmsi y.what ≡ true → (is_accept_event mmsi event && is_accepted g) ≡ true
accepted_there mmsi calls (world.Coast e) (did acts) y is h =
    let same = same_Some (record { at = e.at; what = e.what; acts = acts }) y is in
    ap (λ (b : Bool). b && true) (ap (λ (z : Entry CoastWhat). accepts mmsi z.what) same ∙ h)
accepted_there mmsi calls (world.Coast e) _ y is h = absurd (none-some y is)
accepted_there mmsi calls (world.CoastGets at number) g y is h = absurd (heard_accepts mmsi at (slice_get calls number) g y is h)
accepted_there mmsi calls _ g y is h = absurd (none-some y is)

lift_by : (mmsi : ℕ) (e : WorldEntry) (w : WorldHistory) (back : History CoastWhat) (x : Entry CoastWhat) (o : Option (Entry CoastWhat))
    → coast_entry (histories_of w) e ≡ o → (front : History CoastWhat) → with_entry o (histories_of w).coast ≡ front ++ x ∷ back
    → ((rest : History CoastWhat) → (histories_of w).coast ≡ rest ++ x ∷ back → Lifted w rest back x mmsi) → Lifted (e ∷ w) front back x mmsi
lift_by mmsi e w back x None entry front is rec =
    let r = rec front is in
    record {
      later = e ∷ r.later;
      here = r.here;
      earlier = r.earlier;
      order = ap (λ (l : WorldHistory). e ∷ l) r.order;
      entry = r.entry;
      rest = r.rest;
      accepted = λ h. or_right (accepts_casualty mmsi e) (list_any (accepts_casualty mmsi) r.later) (r.accepted h);
    }
lift_by mmsi e w back x (Some y) entry [] is rec =
    record {
      later = [];
      here = e;
      earlier = w;
      order = refl;
      entry = entry ∙ ap (λ (z : Entry CoastWhat). Some z) (head-eq_of_cons-eq is);
      rest = tail-eq_of_cons-eq is;
      accepted = λ h. h;
    }
lift_by mmsi e w back x (Some y) entry (f ∷ front) is rec =
    let r = rec front (tail-eq_of_cons-eq is) in
    let same = head-eq_of_cons-eq is in
    let accepting : Entry CoastWhat → Bool = λ z. accepts mmsi z.what in
    record {
      later = e ∷ r.later;
      here = r.here;
      earlier = r.earlier;
      order = ap (λ (l : WorldHistory). e ∷ l) r.order;
      entry = r.entry;
      rest = r.rest;
      accepted = λ h. elim (or_cases (accepts mmsi f.what) (list_any accepting front) h) [
        | inl this ↦ or_left (accepts_casualty mmsi e) (list_any (accepts_casualty mmsi) r.later)
            (accepted_there mmsi (sent_by (histories_of w).ship) e.event e.gave y entry (ap accepting same ∙ this))
        | inr others ↦ or_right (accepts_casualty mmsi e) (list_any (accepts_casualty mmsi) r.later) (r.accepted others)
      ];
    }

pub lift : (mmsi : ℕ) (w : WorldHistory) (front back : History CoastWhat) (x : Entry CoastWhat) → (histories_of w).coast ≡ front ++ x ∷ back
    → Lifted w front back x mmsi
lift mmsi [] front back x is = absurd (nil_is_split front back x is)
lift mmsi (e ∷ w) front back x is =
    lift_by mmsi e w back x (coast_entry (histories_of w) e) refl front is (λ rest. λ same. lift mmsi w rest back x same)

-- the ship's entries at the later events of a history
abbrev pub ship_part : WorldHistory → WorldHistory → History ShipWhat
ship_part [] w = []
ship_part (e ∷ later) w = with_entry (ship_entry (histories_of (later ++ w)) e) (ship_part later w)

split_by : (o : Option (Entry ShipWhat)) (h front back : History ShipWhat) → h ≡ front ++ back → with_entry o h ≡ with_entry o front ++ back
split_by None h front back is = is
split_by (Some e) h front back is = ap (λ (l : History ShipWhat). e ∷ l) is

pub ship_splits : (later w : WorldHistory) → (histories_of (later ++ w)).ship ≡ ship_part later w ++ (histories_of w).ship
ship_splits [] w = refl
ship_splits (e ∷ later) w = split_by (ship_entry (histories_of (later ++ w)) e) (histories_of (later ++ w)).ship (ship_part later w) (histories_of w).ship (ship_splits later w)
