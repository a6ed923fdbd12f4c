-- at which events the ship's alert ends
use Rattle.std.proofs.Common.{◌≡◌, ℕ, inl, inr, Bool, Option, Some, None, List, [], ◌∷◌, ◌++◌, slice_get, refl, sym, ◌∙◌, ap, subst}
use Rattle.std.proofs.lemmas.Bool.{or_left, or_right, or_cases}
use Rattle.std.specs.Prelude.{IsTrue}
use Rattle.std.specs.List.{list_any}
use Rattle.std.specs.Option.{option_map}
use Rattle.std.proofs.lemmas.Option.{none-some, same_Some}
use Rattle.call_values.specs.declared.calls.Call.{Call}
use Rattle.call_values.specs.declared.calls.Call.TheVariants as call
use Rattle.call_values.specs.declared.calls.Casualty.{Casualty}
use Rattle.traffic_rules.specs.declared.acts.Act.{Act}
use Rattle.traffic_rules.specs.declared.acts.Act.TheVariants as act
use Rattle.traffic_rules.specs.Histories.{Entry, History, does}
use Rattle.traffic_rules.specs.Rules.{Legal}
use Rattle.ship_station.specs.declared.events.ShipWhat.{ShipWhat}
use Rattle.ship_station.specs.declared.events.ShipWhat.TheVariants as at_ship
use Rattle.ship_station.specs.Events.{MayEndAlert}
use Rattle.ship_station.specs.Past.{is_end}
use Rattle.ship_station.specs.ShipRules.{Identities, ship_rules}
use Rattle.coast_station.specs.declared.events.CoastWhat.{CoastWhat}
use Rattle.coast_station.specs.declared.events.CoastWhat.TheVariants as at_coast
use Rattle.coast_station.specs.Acknowledged.{accepts, GoesBackToAlert}
use Rattle.coast_station.specs.CoastRules.{Station, coast_rules}
use Rattle.exchange.specs.declared.events.WorldEvent.{WorldEvent}
use Rattle.exchange.specs.declared.events.WorldEvent.TheVariants as world
use Rattle.exchange.specs.AlertEnds.{ship_does, accepts_casualty, IsSentByCoast, IsGotByCoast, AcknowledgesSentAlert, IsAcknowledgement, IsCancel, MayEnd}
use Rattle.exchange.specs.Sent.{sent_by}
use Rattle.exchange.specs.WorldHistories.{Given, did, refuses, nothing, WorldEntry, WorldHistory, entry_of, ship_what, coast_what, histories_of}
use Rattle.exchange.specs.WorldRules.{Parties, IsOwnOfShip, IsOwnOfCoast, IsFromOutside, AreAnswered, IsLegal}
use Rattle.exchange.proofs.Answered.{answered_before, coast_legal, ship_at, ship_history}
use Rattle.exchange.proofs.Deliveries.{Sends, sent_at}
use Rattle.exchange.proofs.Splits.{accepted_there, lift}

-- an entry of the coast station that sends a call, in the exchange
module _ (c : Call) where
  got_and_sent : (at number : ℕ) (o : Option Call) (g : Given) (y : Entry CoastWhat)
      → entry_of (option_map (λ (call : Call). (at, at_coast.Heard call)) o) g ≡ Some y → Sends c y.acts
      → IsSentByCoast c (record { event = world.CoastGets at number; gave = g })
  got_and_sent at number None g y is sends = absurd (none-some y is)
  got_and_sent at number (Some d) (did acts) y is sends =
      let same = ap (λ (z : Entry CoastWhat). z.acts) (same_Some (record { at = at; what = at_coast.Heard d; acts = acts }) y is) in
      record { there = refl; first = sends.first; times = sends.times; last = sends.last; acts = ap (λ (l : List Act). did l) (same ∙ sends.split) }
  got_and_sent at number (Some d) _ y is sends = absurd (none-some y is)

  sent_there : (calls : List Call) (event : WorldEvent) (g : Given) (y : Entry CoastWhat) → entry_of (coast_what calls event) g ≡ Some y → Sends c y.acts
      → IsSentByCoast c (record { event = event; gave = g })
  sent_there calls (world.Coast e) (did acts) y is sends =
      let same = ap (λ (z : Entry CoastWhat). z.acts) (same_Some (record { at = e.at; what = e.what; acts = acts }) y is) in
      record { there = refl; first = sends.first; times = sends.times; last = sends.last; acts = ap (λ (l : List Act). did l) (same ∙ sends.split) }
  sent_there calls (world.Coast e) _ y is sends = absurd (none-some y is)
  sent_there calls (world.CoastGets at number) g y is sends = got_and_sent at number (slice_get calls number) g y is sends
  sent_there calls _ g y is sends = absurd (none-some y is)

-- an entry of the coast station that hears a call, in the exchange
module _ (c : Call) (before : WorldHistory) where
  got_by : (at number : ℕ) (o : Option Call) (g : Given) (y : Entry CoastWhat) → slice_get (sent_by (histories_of before).ship) number ≡ o
      → entry_of (option_map (λ (call : Call). (at, at_coast.Heard call)) o) g ≡ Some y → y.what ≡ at_coast.Heard c
      → IsGotByCoast c (record { event = world.CoastGets at number; gave = g }) before
  got_by at number None g y found is hears = absurd (none-some y is)
  got_by at number (Some d) (did acts) y found is hears =
      let same = ap (λ (z : Entry CoastWhat). z.what) (same_Some (record { at = at; what = at_coast.Heard d; acts = acts }) y is) in
      record { at = at; number = number; event = refl; sent = found ∙ ap (λ (x : Call). Some x) (let h : at_coast.Heard d ≡ at_coast.Heard c = same ∙ hears in let e : d ≡ c = cc in e); accepted = refl }
  got_by at number (Some d) _ y found is hears = absurd (none-some y is)

  heard_there : (event : WorldEvent) (g : Given) (y : Entry CoastWhat) → IsFromOutside event
      → entry_of (coast_what (sent_by (histories_of before).ship) event) g ≡ Some y → y.what ≡ at_coast.Heard c
      → IsGotByCoast c (record { event = event; gave = g }) before
  heard_there (world.Coast e) (did acts) y outside is hears =
      let same = ap (λ (z : Entry CoastWhat). z.what) (same_Some (record { at = e.at; what = e.what; acts = acts }) y is) in
      absurd (subst (λ (what : CoastWhat). IsOwnOfCoast what) (same ∙ hears) outside)
  heard_there (world.Coast e) _ y outside is hears = absurd (none-some y is)
  heard_there (world.CoastGets at number) g y outside is hears = got_by at number (slice_get (sent_by (histories_of before).ship) number) g y refl is hears
  heard_there _ g y outside is hears = absurd (none-some y is)

-- what the coast station's law says of an acknowledgement
abbrev pub GoesBack : Type 0
GoesBack =
    (who : Station) (later earlier : History CoastWhat) (sent : Entry CoastWhat) (from times : ℕ) (casualty : Casualty) (first last : List Act)
    → Legal (coast_rules who) (later ++ sent ∷ earlier) → sent.acts ≡ first ++ act.Send (call.Ack from casualty) times ∷ last
    → GoesBackToAlert who.band casualty sent earlier

-- what the ship's law says of the end of an alert
abbrev pub Ends : Type 0
Ends =
    (who : Identities) (later earlier : History ShipWhat) (ended : Entry ShipWhat) → Legal (ship_rules who) (later ++ ended ∷ earlier)
    → IsTrue (does is_end ended) → MayEndAlert who.own ended.what

module _ (goes_back : GoesBack) (who : Parties) (earlier : WorldHistory) (legal : Legal (coast_rules who.coast) (histories_of earlier).coast)
    (answered : AreAnswered who earlier) where
  -- an acknowledgement among the calls that the coast station sent goes back to an alert of the ship
  back : (number from : ℕ) (casualty : Casualty) → slice_get (sent_by (histories_of earlier).coast) number ≡ Some (call.Ack from casualty)
      → AcknowledgesSentAlert (call.Ack from casualty) casualty earlier
  back number from casualty found =
      let ack = call.Ack from casualty in
      let mmsi = casualty.mmsi in
      let s = sent_at (histories_of earlier).coast number ack found in
      let first = lift mmsi earlier s.later s.earlier s.sent s.order in
      let split = subst (λ (h : History CoastWhat). Legal (coast_rules who.coast) h) s.order legal in
      let g = goes_back who.coast s.later s.earlier s.sent from s.sends.times casualty s.sends.first s.sends.last split s.sends.split in
      let second = lift mmsi first.earlier g.between g.before g.heard (first.rest ∙ g.order) in
      let here = subst (λ (w : WorldHistory). AreAnswered who w) first.order answered in
      let there = subst (λ (w : WorldHistory). AreAnswered who w) second.order (answered_before who first.later (first.here ∷ first.earlier) here).2 in
      let outside = (answered_before who second.later (second.here ∷ second.earlier) there).0 in
      let accepting : Entry CoastWhat → Bool = λ e. accepts mmsi e.what in
      record {
        later = first.later;
        sent = first.here;
        between = second.later;
        got = second.here;
        before = second.earlier;
        order = first.order ∙ ap (λ (w : WorldHistory). first.later ++ first.here ∷ w) second.order;
        acknowledged = sent_there ack (sent_by (histories_of first.earlier).ship) first.here.event first.here.gave s.sent first.entry s.sends;
        heard = heard_there (call.Alert casualty) second.earlier second.here.event second.here.gave g.heard outside second.entry g.alert;
        accepted = elim (or_cases (accepts mmsi s.sent.what) (list_any accepting g.between) g.accepted) [
          | inl this ↦ or_left (accepts_casualty mmsi first.here) (list_any (accepts_casualty mmsi) second.later)
              (accepted_there mmsi (sent_by (histories_of first.earlier).ship) first.here.event first.here.gave s.sent first.entry this)
          | inr others ↦ or_right (accepts_casualty mmsi first.here) (list_any (accepts_casualty mmsi) second.later) (second.accepted others)
        ];
      }

  acknowledgement_of : (own number : ℕ) (c : Call) → slice_get (sent_by (histories_of earlier).coast) number ≡ Some c → MayEndAlert own (at_ship.Heard c)
      → IsAcknowledgement own number earlier
  acknowledgement_of own number (call.Ack from casualty) found names =
      record { from = from; casualty = casualty; delivered = found; names = names; goes_back = back number from casualty found }
  acknowledgement_of own number c found may = absurd may

  got_end : (own at number : ℕ) (o : Option Call) (g : Given) (x : Entry ShipWhat) → slice_get (sent_by (histories_of earlier).coast) number ≡ o
      → entry_of (option_map (λ (call : Call). (at, at_ship.Heard call)) o) g ≡ Some x → MayEndAlert own x.what → IsAcknowledgement own number earlier
  got_end own at number None g x found is may = absurd (none-some x is)
  got_end own at number (Some c) (did acts) x found is may =
      let same = same_Some (record { at = at; what = at_ship.Heard c; acts = acts }) x is in
      acknowledgement_of own number c found (subst (λ (z : Entry ShipWhat). MayEndAlert own z.what) (sym same) may)
  got_end own at number (Some c) _ x found is may = absurd (none-some x is)

  cancel_of : (own : ℕ) (what : ShipWhat) → IsOwnOfShip what → MayEndAlert own what → IsCancel what
  cancel_of own at_ship.Cancel outside may = tt
  cancel_of own (at_ship.Heard c) outside may = absurd outside
  cancel_of own _ outside may = absurd may

  ended_by : (own : ℕ) (event : WorldEvent) (g : Given) (x : Entry ShipWhat) → IsFromOutside event
      → entry_of (ship_what (sent_by (histories_of earlier).coast) event) g ≡ Some x → MayEndAlert own x.what → MayEnd own event earlier
  ended_by own (world.Ship e) (did acts) x outside is may =
      let same = same_Some (record { at = e.at; what = e.what; acts = acts }) x is in
      cancel_of own e.what outside (subst (λ (z : Entry ShipWhat). MayEndAlert own z.what) (sym same) may)
  ended_by own (world.Ship e) _ x outside is may = absurd (none-some x is)
  ended_by own (world.ShipGets at number) g x outside is may = got_end own at number (slice_get (sent_by (histories_of earlier).coast) number) g x refl is may
  ended_by own _ g x outside is may = absurd (none-some x is)

pub may_end : Ends → GoesBack → (who : Parties) (later earlier : WorldHistory) (ended : WorldEntry) → IsLegal who (later ++ ended ∷ earlier)
    → IsTrue (ship_does is_end ended) → MayEnd who.ship.own ended.event earlier
may_end ends goes_back who later earlier ended legal ending =
    let at = ship_at who is_end later earlier ended legal ending in
    let order = ship_history who is_end later earlier ended at.entry at.is in
    let ships = subst (λ (h : History ShipWhat). Legal (ship_rules who.ship) h) order legal.ship in
    let may = ends who.ship _ (histories_of earlier).ship at.entry ships at.does_it in
    let answered = answered_before who later (ended ∷ earlier) legal.answered in
    let coasts = coast_legal who (ended ∷ []) earlier (coast_legal who later (ended ∷ earlier) legal.coast) in
    ended_by goes_back who earlier coasts answered.2 who.ship.own ended.event ended.gave at.entry answered.0 at.is may
