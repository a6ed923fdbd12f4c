-- after the end of its alert the ship sends no alert in an exchange until an event begins one
use Rattle.std.proofs.Common.{◌≡◌, ℕ, ◌&&◌, Bool, true, false, Option, Some, None, List, [], ◌∷◌, ◌++◌, slice_get, refl, sym, ◌∙◌, ap, subst}
use Rattle.std.proofs.lemmas.Bool.{false≢true, or_from, or_parts}
use Rattle.std.specs.Prelude.{IsTrue}
use Rattle.std.specs.List.{list_any}
use Rattle.std.specs.Option.{option_map}
use Rattle.std.proofs.lemmas.Option.{none-some, same_Some}
use Rattle.call_values.specs.declared.calls.Call.{Call}
use Rattle.traffic_rules.specs.declared.acts.Act.{Act}
use Rattle.traffic_rules.specs.Histories.{Entry, History, does, NoneIs}
use Rattle.traffic_rules.specs.Rules.{Legal}
use Rattle.traffic_rules.specs.Sendings.{is_alert, sends}
use Rattle.ship_station.specs.declared.events.ShipWhat.{ShipWhat}
use Rattle.ship_station.specs.declared.events.ShipWhat.TheVariants as at_ship
use Rattle.ship_station.specs.Events.{begins_alert as begins_at_ship}
use Rattle.ship_station.specs.Past.{is_end}
use Rattle.ship_station.specs.ShipRules.{Identities, ship_rules}
use Rattle.exchange.specs.declared.events.WorldEvent.{WorldEvent}
use Rattle.exchange.specs.declared.events.WorldEvent.TheVariants as world
use Rattle.exchange.specs.AlertEnds.{is_accepted, is_alert_event, begins_alert, ship_does}
use Rattle.exchange.specs.Sent.{sent_by}
use Rattle.exchange.specs.WorldHistories.{Given, did, refuses, nothing, WorldEntry, WorldHistory, entry_of, with_entry, ship_what, ship_entry, histories_of}
use Rattle.exchange.specs.WorldRules.{Parties, AreAnswered, IsLegal}
use Rattle.exchange.proofs.Answered.{ship_there, ship_at, ship_history}
use Rattle.exchange.proofs.Splits.{ship_part}

not_accepted : (b : Bool) → (b && true) ≡ false → b ≡ false
not_accepted true h = h
not_accepted false h = h

begins_none : (at : ℕ) (o : Option Call) (g : Given) (y : Entry ShipWhat)
    → entry_of (option_map (λ (call : Call). (at, at_ship.Heard call)) o) g ≡ Some y → begins_at_ship y ≡ false
begins_none at None g y is = absurd (none-some y is)
begins_none at (Some c) (did acts) y is = sym (ap begins_at_ship (same_Some (record { at = at; what = at_ship.Heard c; acts = acts }) y is))
begins_none at (Some c) _ y is = absurd (none-some y is)

-- an entry of the ship begins no alert where that of the exchange begins none
begins_not : (calls : List Call) (event : WorldEvent) (g : Given) (y : Entry ShipWhat) → entry_of (ship_what calls event) g ≡ Some y
    → (is_alert_event event && is_accepted g) ≡ false → begins_at_ship y ≡ false
begins_not calls (world.Ship e) (did acts) y is none =
    sym (ap begins_at_ship (same_Some (record { at = e.at; what = e.what; acts = acts }) y is)) ∙ not_accepted (is_alert_event (world.Ship e)) none
begins_not calls (world.Ship e) _ y is none = absurd (none-some y is)
begins_not calls (world.ShipGets at number) g y is none = begins_none at (slice_get calls number) g y is
begins_not calls _ g y is none = absurd (none-some y is)

module _ (test : Entry ShipWhat → Bool) where
  none_with : (o : Option (Entry ShipWhat)) (h : History ShipWhat) → ((y : Entry ShipWhat) → o ≡ Some y → test y ≡ false) → NoneIs test h → NoneIs test (with_entry o h)
  none_with None h one none = none
  none_with (Some y) h one none = or_from (test y) (list_any test h) (one y refl) none

  none_but : (o : Option (Entry ShipWhat)) (h : History ShipWhat) → NoneIs test (with_entry o h) → NoneIs test h
  none_but None h none = none
  none_but (Some y) h none = (or_parts (test y) (list_any test h) none).1

  not_one : (o : Option (Entry ShipWhat)) (h : History ShipWhat) (y : Entry ShipWhat) → o ≡ Some y → NoneIs test (with_entry o h) → test y ≡ false
  not_one None h y is none = absurd (none-some y is)
  not_one (Some z) h y is none = ap test (sym (same_Some z y is)) ∙ (or_parts (test z) (list_any test h) none).0

none_begins : (later w : WorldHistory) → list_any begins_alert later ≡ false → NoneIs begins_at_ship (ship_part later w)
none_begins [] w none = refl
none_begins (e ∷ later) w none =
    let parts = or_parts (begins_alert e) (list_any begins_alert later) none in
    none_with begins_at_ship (ship_entry (histories_of (later ++ w)) e) (ship_part later w)
    (λ y. λ is. begins_not (sent_by (histories_of (later ++ w)).coast) e.event e.gave y is parts.0)
    (none_begins later w parts.1)

module _ (who : Parties) (is_such : Act → Bool) where
  one_silent : (e : WorldEntry) (w : WorldHistory) (h : History ShipWhat) (b : Bool) → ship_does is_such e ≡ b → AreAnswered who (e ∷ w)
      → NoneIs (does is_such) (with_entry (ship_entry (histories_of w) e) h) → ship_does is_such e ≡ false
  one_silent e w h false is answered none = is
  one_silent e w h true is answered none =
      let at = ship_there who is_such w e.event e.gave answered.1 is in
      absurd (false≢true (sym (not_one (does is_such) (ship_entry (histories_of w) e) h at.entry at.is none) ∙ at.does_it))

  all_silent : (later w : WorldHistory) → AreAnswered who (later ++ w) → NoneIs (does is_such) (ship_part later w) → list_any (ship_does is_such) later ≡ false
  all_silent [] w answered none = refl
  all_silent (e ∷ later) w answered none =
      or_from (ship_does is_such e) (list_any (ship_does is_such) later)
      (one_silent e (later ++ w) (ship_part later w) (ship_does is_such e) refl answered none)
      (all_silent later w answered.2 (none_but (does is_such) (ship_entry (histories_of (later ++ w)) e) (ship_part later w) none))

-- what the ship's law says after an end
abbrev pub IsSilent : Type 0
IsSilent =
    (who : Identities) (later earlier : History ShipWhat) (ended : Entry ShipWhat) → Legal (ship_rules who) (later ++ ended ∷ earlier)
    → IsTrue (does is_end ended) → NoneIs begins_at_ship later → NoneIs (does (sends is_alert)) later

pub silent_after_end : IsSilent → (who : Parties) (later earlier : WorldHistory) (ended : WorldEntry) → IsLegal who (later ++ ended ∷ earlier)
    → IsTrue (ship_does is_end ended) → list_any begins_alert later ≡ false → list_any (ship_does (sends is_alert)) later ≡ false
silent_after_end silent who later earlier ended legal ending none =
    let at = ship_at who is_end later earlier ended legal ending in
    let order = ship_history who is_end later earlier ended at.entry at.is in
    let ships = subst (λ (h : History ShipWhat). Legal (ship_rules who.ship) h) order legal.ship in
    let part = ship_part later (ended ∷ earlier) in
    let quiet = silent who.ship part (histories_of earlier).ship at.entry ships at.does_it (none_begins later (ended ∷ earlier) none) in
    all_silent who (sends is_alert) later (ended ∷ earlier) legal.answered quiet
