-- a legal history of an exchange goes on legally
use Rattle.std.proofs.Common.{ℕ, Option, Some, None, slice_get, refl, sym, subst}
use Rattle.std.specs.Option.{option_map}
use Rattle.call_values.specs.declared.calls.Call.{Call}
use Rattle.traffic_rules.specs.Histories.{History}
use Rattle.traffic_rules.specs.Rules.{Rules, answer_to, Legal}
use Rattle.traffic_rules.proofs.PublicLaws.{legal_continued}
use Rattle.ship_station.specs.declared.events.ShipWhat.TheVariants as at_ship
use Rattle.ship_station.specs.ShipRules.{ship_rules}
use Rattle.coast_station.specs.declared.events.CoastWhat.TheVariants as at_coast
use Rattle.coast_station.specs.CoastRules.{coast_rules}
use Rattle.exchange.specs.declared.events.WorldEvent.{WorldEvent}
use Rattle.exchange.specs.declared.events.WorldEvent.TheVariants as world
use Rattle.exchange.specs.Sent.{sent_by}
use Rattle.exchange.specs.WorldHistories.{WorldHistory, histories_of}
use Rattle.exchange.specs.WorldRules.{Parties, IsFromOutside, IsWorldEvent, given_by, given_at, world_continued, IsLegal}
use Rattle.exchange.specs.inside.Moves.{after_event}
use Rattle.exchange.proofs.Moving.{goes_on}

module _ {What : Type 0} (rules : Rules What) where
  -- the history of an end at its own event
  own_next : (h : History What) (at : ℕ) (what : What) → rules.IsEvent what → Legal rules h
      → Legal rules (after_event (Some (at, what)) (given_by (answer_to rules h at what)) h)
  own_next h at what event legal =
      subst (λ (g : History What). Legal rules g) (sym (goes_on rules h at what (given_by (answer_to rules h at what)) refl))
      (legal_continued rules h at what event legal)

  -- and at a delivery
  got_next : (heard : Call → What) → ((call : Call) → rules.IsEvent (heard call)) → (h : History What) (at number : ℕ) (o : Option Call) → Legal rules h
      → Legal rules (after_event (option_map (λ (call : Call). (at, heard call)) o) (given_at rules h at number heard o) h)
  got_next heard events h at number None legal = legal
  got_next heard events h at number (Some call) legal = own_next h at (heard call) (events call) legal

module _ (who : Parties) (w : WorldHistory) where
  ship_next : (event : WorldEvent) → IsWorldEvent event → Legal (ship_rules who.ship) (histories_of w).ship
      → Legal (ship_rules who.ship) (histories_of (world_continued who w event)).ship
  ship_next (world.Ship e) is legal = own_next (ship_rules who.ship) (histories_of w).ship e.at e.what is legal
  ship_next (world.Coast e) is legal = legal
  ship_next (world.ShipGets at number) is legal =
      got_next (ship_rules who.ship) at_ship.Heard (λ call. tt) (histories_of w).ship at number (slice_get (sent_by (histories_of w).coast) number) legal
  ship_next (world.CoastGets at number) is legal = legal

  coast_next : (event : WorldEvent) → IsWorldEvent event → Legal (coast_rules who.coast) (histories_of w).coast
      → Legal (coast_rules who.coast) (histories_of (world_continued who w event)).coast
  coast_next (world.Ship e) is legal = legal
  coast_next (world.Coast e) is legal = own_next (coast_rules who.coast) (histories_of w).coast e.at e.what is legal
  coast_next (world.ShipGets at number) is legal = legal
  coast_next (world.CoastGets at number) is legal =
      got_next (coast_rules who.coast) at_coast.Heard (λ call. tt) (histories_of w).coast at number (slice_get (sent_by (histories_of w).ship) number) legal

  pub world_goes_on : (event : WorldEvent) → IsFromOutside event → IsWorldEvent event → IsLegal who w → IsLegal who (world_continued who w event)
  world_goes_on event outside is legal = record {
    ship = ship_next event is legal.ship;
    coast = coast_next event is legal.coast;
    answered = (outside, refl, legal.answered);
  }
