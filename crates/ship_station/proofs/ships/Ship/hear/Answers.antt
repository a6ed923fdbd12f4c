use Rattle.std.proofs.Common.{◌≡◌, ℕ, ◌==◌, ◌&&◌, Bool, true, false, is_some, Some, None, Option, List, [], ◌∷◌, if◌then◌else◌, refl, sym, ◌∙◌, ap, subst}
use Rattle.std.specs.List.{list_any}
use Rattle.std.proofs.lemmas.Result.{on_ok_weaker}
use Rattle.call_values.specs.declared.positions.Fix.{Fix}
use Rattle.call_values.specs.declared.calls.Call.{Call}
use Rattle.call_values.specs.declared.calls.Call.TheVariants.{Ack}
use Rattle.traffic_rules.specs.declared.acts.Act.{Act}
use Rattle.traffic_rules.specs.declared.acts.Act.TheVariants.{Distress, AlertEnded}
use Rattle.traffic_rules.specs.declared.refusals.StationRefusal.{StationRefusal}
use Rattle.traffic_rules.specs.Histories.{Entry, History}
use Rattle.traffic_rules.specs.Holding.{Places}
use Rattle.traffic_rules.specs.Rules.{refusal_or}
use Rattle.traffic_rules.specs.Giving.{answer_with}
use Rattle.traffic_rules.specs.Hearing.{heard_refusal, heard_due}
use Rattle.traffic_rules.specs.After.{after_hearing}
use Rattle.traffic_rules.proofs.PublicLaws.{none_heard, after_heard, after_hearing_nothing, answer_on_time}
use Rattle.ship_station.specs.declared.events.ShipWhat.{ShipWhat}
use Rattle.ship_station.specs.declared.events.ShipWhat.TheVariants.{Heard}
use Rattle.ship_station.specs.declared.alerts.OwnAlert.{OwnAlert}
use Rattle.ship_station.specs.declared.ships.Ship.{Ship}
use Rattle.ship_station.specs.Events.{ship_occurs}
use Rattle.ship_station.specs.Past.{is_attempt, is_end, kept, open_alert}
use Rattle.ship_station.specs.ShipRules.{Identities, held, is_for, at_call, due_at, refusal_at, ship_rules}
use Rattle.ship_station.specs.StandsFor.{Keeps}
use Rattle.ship_station.proofs.Steps.{accepted, goes}
use Rattle.ship_station.proofs.Keeping.{keeps_after}
use Rattle.ship_station.proofs.Traffic.{attempts_missed, ends_missed, traffic_due}
use Rattle.ship_station.proofs.Hearing.{is_for_by, due_for, due_for_others, refusal_for, refusal_for_others}
use Rattle.ship_station.proofs.ships.Ship.hear.Goals as goal

pub returns-then-not-is_for_this-clause-goes_on : goal.returns-then-not-is_for_this-clause-goes_on
returns-then-not-is_for_this-clause-goes_on c who h stands late event =
    let keeps = stands.1 in
    let call = c.args.call.now in
    let others : is_for who h call ≡ false = sym (is_for_by who h c.args.self.now call keeps) ∙ sym c.is_for_this.ensures ∙ c.if-not-is_for_this.true in
    let e : Entry ShipWhat = record { at = c.args.at; what = Heard call; acts = [] } in
    accepted who h c.args.at (Heard call) [] _ late event stands.0 (refusal_for_others who h call others) (due_for_others who h c.args.at call others)
    (keeps_after who h e c.args.self.now _ false false keeps (record { place = refl; delay = refl; alert = refl }) refl refl
    (record { own = refl; groups = refl; last = refl; position = refl; time = refl; alert = refl; attempted = refl; delays = refl })
    (keeps.held ∙ sym (after_hearing_nothing ship_occurs e h call refl (record { begin = λ k. refl; end = λ k. refl }))))

pub returns-in-Alert-clause-goes_on : goal.returns-in-Alert-clause-goes_on
returns-in-Alert-clause-goes_on c who h stands late event =
    let keeps = stands.1 in
    let call = c.args.call.now in
    let for_it : is_for who h call ≡ true = sym (is_for_by who h c.args.self.now call keeps) ∙ sym c.is_for_this.ensures ∙ c.if-not-is_for_this.false in
    let acts = Distress c.in-Alert.casualty ∷ [] in
    let due = due_for who h c.args.at call for_it ∙ ap (at_call who.own (kept h) (is_some (open_alert h)) (held h)) c.in-Alert.is in
    let none = refusal_for who h call for_it ∙ ap (heard_refusal (held h)) c.in-Alert.is in
    let e : Entry ShipWhat = record { at = c.args.at; what = Heard call; acts = acts } in
    accepted who h c.args.at (Heard call) acts _ late event stands.0 none due
    (keeps_after who h e c.args.self.now _ false false keeps (record { place = refl; delay = refl; alert = refl }) refl refl
    (record { own = refl; groups = refl; last = refl; position = refl; time = refl; alert = refl; attempted = refl; delays = refl })
    (keeps.held ∙ sym (after_hearing_nothing ship_occurs e h call refl (record { begin = λ k. refl; end = λ k. refl }))))

-- an acknowledgement for the ship ends its alert or not
keeps_ack : (who : Identities) (h : History ShipWhat) (at : ℕ) (call : Call) (old new : Ship) (test : Bool) → Keeps old who h
    → new ≡ record old { last = at; alert = if test then None else old.alert }
    → Keeps new who (record { at = at; what = Heard call; acts = if test then AlertEnded ∷ [] else [] } ∷ h)
keeps_ack who h at call old new true keeps is =
    let e : Entry ShipWhat = record { at = at; what = Heard call; acts = AlertEnded ∷ [] } in
    subst (λ (ship : Ship). Keeps ship who (e ∷ h)) (sym is)
    (keeps_after who h e old _ true false keeps (record { place = refl; delay = refl; alert = refl }) refl refl
    (record { own = refl; groups = refl; last = refl; position = refl; time = refl; alert = refl; attempted = refl; delays = refl })
    (keeps.held ∙ sym (after_hearing_nothing ship_occurs e h call refl (record { begin = λ k. refl; end = λ k. refl }))))
keeps_ack who h at call old new false keeps is =
    let e : Entry ShipWhat = record { at = at; what = Heard call; acts = [] } in
    subst (λ (ship : Ship). Keeps ship who (e ∷ h)) (sym is)
    (keeps_after who h e old _ false false keeps (record { place = refl; delay = refl; alert = refl }) refl refl
    (record { own = refl; groups = refl; last = refl; position = refl; time = refl; alert = refl; attempted = refl; delays = refl })
    (keeps.held ∙ sym (after_hearing_nothing ship_occurs e h call refl (record { begin = λ k. refl; end = λ k. refl }))))

pub returns-in-Ack-clause-goes_on : goal.returns-in-Ack-clause-goes_on
returns-in-Ack-clause-goes_on c who h stands late event =
    let keeps = stands.1 in
    let ship = c.args.self.now in
    let call = c.args.call.now in
    let for_it : is_for who h call ≡ true = sym (is_for_by who h ship call keeps) ∙ sym c.is_for_this.ensures ∙ c.if-not-is_for_this.false in
    let due = due_for who h c.args.at call for_it
    ∙ ap (at_call who.own (kept h) (is_some (open_alert h)) (held h)) c.in-Ack.is
    ∙ ap (λ (o : Option OwnAlert). at_call who.own (kept h) (is_some o) (held h) (Ack c.in-Ack.from c.in-Ack.casualty)) (sym keeps.alert)
    ∙ ap (λ (n : ℕ). at_call n (kept h) (is_some ship.alert) (held h) (Ack c.in-Ack.from c.in-Ack.casualty)) (sym keeps.own) in
    let none = refusal_for who h call for_it ∙ ap (heard_refusal (held h)) c.in-Ack.is in
    accepted who h c.args.at (Heard call) _ _ late event stands.0 none due
    (keeps_ack who h c.args.at call ship _ (is_some ship.alert && (c.in-Ack.casualty.mmsi == ship.own)) keeps c.hear_acknowledgement.ensures.ended)

-- other calls for the ship, by the rules of traffic
keeps_heard : (who : Identities) (h : History ShipWhat) (at : ℕ) (call : Call) (old new : Ship) → Keeps old who h
    → due_at who h at (Heard call) ≡ heard_due who.own (Some (kept h)) (held h) call → heard_refusal (held h) call ≡ None
    → new ≡ record old { last = at; held = after_hearing old.held call at }
    → Keeps new who (record { at = at; what = Heard call; acts = due_at who h at (Heard call) } ∷ h)
keeps_heard who h at call old new keeps due none is =
    let e : Entry ShipWhat = record { at = at; what = Heard call; acts = due_at who h at (Heard call) } in
    subst (λ (ship : Ship). Keeps ship who (e ∷ h)) (sym is)
    (keeps_after who h e old _ false false keeps (record { place = refl; delay = refl; alert = refl })
    (ap (list_any is_end) due ∙ none_heard is_end ends_missed who.own (Some (kept h)) (held h) call)
    (ap (list_any is_attempt) due ∙ none_heard is_attempt attempts_missed who.own (Some (kept h)) (held h) call)
    (record { own = refl; groups = refl; last = refl; position = refl; time = refl; alert = refl; attempted = refl; delays = refl })
    (ap (λ (l : Places). after_hearing l call at) keeps.held ∙ sym (after_heard ship_occurs e h who.own (Some (kept h)) call refl due none)))

pub returns-in_default : goal.returns-in_default
returns-in_default c =
    let ship = c.args.self.now in
    let call = c.args.call.now in
    let at = c.args.at in
    let for_it : (who : Identities) (h : History ShipWhat) → Keeps ship who h → is_for who h call ≡ true =
    λ who h keeps. sym (is_for_by who h ship call keeps) ∙ sym c.is_for_this.ensures ∙ c.if-not-is_for_this.false in
    let due : (who : Identities) (h : History ShipWhat) → Keeps ship who h → due_at who h at (Heard call) ≡ heard_due who.own (Some (kept h)) (held h) call =
    λ who h keeps.
    due_for who h at call (for_it who h keeps) ∙ traffic_due who.own (kept h) (is_some (open_alert h)) (held h) call c.in_default.not-Alert c.in_default.not-Ack in
    let told : (who : Identities) (h : History ShipWhat) → Keeps ship who h → answer_with c.hear_traffic.result c.hear_traffic.new.acts.items ≡ refusal_or (refusal_at who h (Heard call)) (due_at who h at (Heard call)) =
    λ who h keeps.
    c.hear_traffic.ensures.answer
    ∙ ap (λ (l : Places). refusal_or (heard_refusal l call) (heard_due ship.own (Some (ship.position, ship.time)) l call)) keeps.held
    ∙ ap (λ (n : ℕ). refusal_or (heard_refusal (held h) call) (heard_due n (Some (ship.position, ship.time)) (held h) call)) keeps.own
    ∙ ap (λ (p : Option Fix). refusal_or (heard_refusal (held h) call) (heard_due who.own (Some (p, ship.time)) (held h) call)) keeps.position
    ∙ ap (λ (t : Option (ℕ × ℕ)). refusal_or (heard_refusal (held h) call) (heard_due who.own (Some ((kept h).0, t)) (held h) call)) keeps.time
    ∙ ap (λ (r : Option StationRefusal). refusal_or r (heard_due who.own (Some (kept h)) (held h) call)) (sym (refusal_for who h call (for_it who h keeps)))
    ∙ ap (λ (acts : List Act). refusal_or (refusal_at who h (Heard call)) acts) (sym (due who h keeps)) in
    record {
      answer = λ who h stands late. told who h stands.1 ∙ sym (answer_on_time (ship_rules who) h at (Heard call) late);
      goes_on = λ who h stands late event.
          goes who h at (Heard call) ship c.hear_traffic.new.self c.hear_traffic.result c.hear_traffic.new.acts.items late event stands (told who h stands.1) c.hear_traffic.ensures.unchanged
          (λ none. on_ok_weaker c.hear_traffic.result
          (keeps_heard who h at call ship c.hear_traffic.new.self stands.1 (due who h stands.1) (sym (refusal_for who h call (for_it who h stands.1)) ∙ none))
          c.hear_traffic.ensures.held);
      none = c.hear_traffic.ensures.none;
      unchanged = c.hear_traffic.ensures.unchanged;
    }
