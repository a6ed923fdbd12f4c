-- what each event of a legal history gave, and the entries of the ship
use Rattle.std.proofs.Common.{◌≡◌, ℕ, ◌&&◌, Bool, true, Option, Some, None, List, [], ◌∷◌, ◌++◌, slice_get, refl, ◌∙◌, ap}
use Rattle.std.proofs.lemmas.Bool.{false≢true}
use Rattle.std.specs.Option.{option_map}
use Rattle.call_values.specs.declared.calls.Call.{Call}
use Rattle.traffic_rules.specs.declared.acts.Act.{Act}
use Rattle.traffic_rules.specs.Histories.{Entry, History, does}
use Rattle.traffic_rules.specs.Rules.{Rules, Legal}
use Rattle.ship_station.specs.declared.events.ShipWhat.{ShipWhat}
use Rattle.ship_station.specs.declared.events.ShipWhat.TheVariants as at_ship
use Rattle.ship_station.specs.ShipRules.{ship_rules}
use Rattle.coast_station.specs.CoastRules.{coast_rules}
use Rattle.exchange.specs.declared.events.WorldEvent.{WorldEvent}
use Rattle.exchange.specs.declared.events.WorldEvent.TheVariants as world
use Rattle.exchange.specs.AlertEnds.{is_at_ship, gives, ship_does}
use Rattle.exchange.specs.Sent.{sent_by}
use Rattle.exchange.specs.WorldHistories.{Given, did, refuses, nothing, WorldEntry, WorldHistory, entry_of, with_entry, ship_what, coast_entry, histories_of}
use Rattle.exchange.specs.WorldRules.{Parties, given_at, answer_behind, AreAnswered, IsLegal}
use Rattle.exchange.proofs.Splits.{ship_part, ship_splits}

module _ (who : Parties) where
  pub answered_before : (later w : WorldHistory) → AreAnswered who (later ++ w) → AreAnswered who w
  answered_before [] w answered = answered
  answered_before (e ∷ later) w answered = answered_before later w answered.2

  legal_without : {What : Type 0} (rules : Rules What) (o : Option (Entry What)) (h : History What) → Legal rules (with_entry o h) → Legal rules h
  legal_without rules None h legal = legal
  legal_without rules (Some e) h legal = legal.1

  pub coast_legal : (later w : WorldHistory) → Legal (coast_rules who.coast) (histories_of (later ++ w)).coast → Legal (coast_rules who.coast) (histories_of w).coast
  coast_legal [] w legal = legal
  coast_legal (e ∷ later) w legal =
      coast_legal later w (legal_without (coast_rules who.coast) (coast_entry (histories_of (later ++ w)) e) (histories_of (later ++ w)).coast legal)

-- an entry of the ship at which it does such
pub record AtShip (calls : List Call) (event : WorldEvent) (g : Given) (is_such : Act → Bool) : Type 0 where
  pub entry : Entry ShipWhat
  pub is : entry_of (ship_what calls event) g ≡ Some entry
  pub does_it : does is_such entry ≡ true

module _ (who : Parties) (is_such : Act → Bool) (w : WorldHistory) where
  got_there : (at number : ℕ) (o : Option Call) (g : Given) → g ≡ given_at (ship_rules who.ship) (histories_of w).ship at number at_ship.Heard o → gives is_such g ≡ true
      → (x : Entry ShipWhat) × (entry_of (option_map (λ (call : Call). (at, at_ship.Heard call)) o) g ≡ Some x) × (does is_such x ≡ true)
  got_there at number None (did acts) gave h = absurd (let h : did acts ≡ nothing number = gave in cc)
  got_there at number (Some c) (did acts) gave h = (record { at = at; what = at_ship.Heard c; acts = acts }, refl, h)
  got_there at number o _ gave h = absurd (false≢true h)

  pub ship_there : (event : WorldEvent) (g : Given) → g ≡ answer_behind who (histories_of w) event → (is_at_ship event && gives is_such g) ≡ true
      → AtShip (sent_by (histories_of w).coast) event g is_such
  ship_there (world.Ship e) (did acts) gave h = record { entry = record { at = e.at; what = e.what; acts = acts }; is = refl; does_it = h }
  ship_there (world.Ship e) _ gave h = absurd (false≢true h)
  ship_there (world.ShipGets at number) g gave h =
      let found = got_there at number (slice_get (sent_by (histories_of w).coast) number) g gave h in
      record { entry = found.0; is = found.1; does_it = found.2 }
  ship_there _ g gave h = absurd (false≢true h)

module _ (who : Parties) (is_such : Act → Bool) (later earlier : WorldHistory) (e : WorldEntry) where
  -- the ship's entry at an event of a legal history
  pub ship_at : IsLegal who (later ++ e ∷ earlier) → ship_does is_such e ≡ true → AtShip (sent_by (histories_of earlier).coast) e.event e.gave is_such
  ship_at legal h =
      let here = answered_before who later (e ∷ earlier) legal.answered in
      ship_there who is_such earlier e.event e.gave here.1 h

  -- the ship's history splits there
  pub ship_history : (x : Entry ShipWhat) → entry_of (ship_what (sent_by (histories_of earlier).coast) e.event) e.gave ≡ Some x
      → (histories_of (later ++ e ∷ earlier)).ship ≡ ship_part later (e ∷ earlier) ++ x ∷ (histories_of earlier).ship
  ship_history x is =
      ship_splits later (e ∷ earlier)
      ∙ ap (λ (o : Option (Entry ShipWhat)). ship_part later (e ∷ earlier) ++ with_entry o (histories_of earlier).ship) is
