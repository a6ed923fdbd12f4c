use Rattle.std.proofs.Common.{◌≡◌, ℕ, false, None, Some, refl, sym, ◌∙◌, ap, subst}
use Rattle.traffic_rules.specs.Histories.{Entry, History}
use Rattle.traffic_rules.specs.Holding.{Places}
use Rattle.traffic_rules.proofs.PublicLaws.{refusal_of, acts_of, refused_on_time, continued_refused}
use Rattle.traffic_rules.specs.Sending.{send_refusal, send_due}
use Rattle.traffic_rules.specs.After.{after_sending}
use Rattle.traffic_rules.proofs.PublicLaws.{none_sent, after_send}
use Rattle.ship_station.specs.declared.events.ShipWhat.{ShipWhat}
use Rattle.ship_station.specs.declared.events.ShipWhat.TheVariants.{Send}
use Rattle.ship_station.specs.Events.{ship_occurs}
use Rattle.ship_station.specs.Past.{is_attempt, is_end}
use Rattle.ship_station.specs.ShipRules.{held, refusal_at, ship_rules}
use Rattle.ship_station.specs.StandsFor.{StandsFor}
use Rattle.ship_station.proofs.Steps.{accepted}
use Rattle.ship_station.proofs.Keeping.{keeps_after}
use Rattle.ship_station.proofs.Traffic.{attempts_missed, ends_missed}
use Rattle.ship_station.proofs.ships.Ship.send.Goals as goal

pub returns-in_err-send-clause-goes_on : goal.returns-in_err-send-clause-goes_on
returns-in_err-send-clause-goes_on c who h stands late event =
    let keeps = stands.1 in
    let ship = c.args.self.now in
    let call = c.args.call.now in
    let refusal = c.in_err-send.field-0.0 in
    let is : refusal_at who h (Send call) ≡ Some refusal =
    sym (ap (λ (n : ℕ). send_refusal n ship.held call) keeps.own ∙ ap (λ (l : Places). send_refusal who.own l call) keeps.held)
    ∙ refusal_of (send_refusal ship.own ship.held call) (send_due ship.held call) refusal c.in_err-send.ensures.answer in
    subst (λ (g : History ShipWhat). StandsFor (record ship { held = c.send.new.held }) who g)
    (sym (continued_refused (ship_rules who) h c.args.at (Send call) refusal (refused_on_time (ship_rules who) h c.args.at (Send call) late ∙ is)))
    (subst (λ (l : Places). StandsFor (record ship { held = l }) who h) (sym c.in_err-send.ensures.unchanged) stands)

pub returns-clause-goes_on : goal.returns-clause-goes_on
returns-clause-goes_on c who h stands late event =
    let keeps = stands.1 in
    let ship = c.args.self.now in
    let call = c.args.call.now in
    let parts = acts_of (send_refusal ship.own ship.held call) (send_due ship.held call) c.send.new.acts.items c.in_ok-send.ensures.answer in
    let none : refusal_at who h (Send call) ≡ None =
    sym (ap (λ (n : ℕ). send_refusal n ship.held call) keeps.own ∙ ap (λ (l : Places). send_refusal who.own l call) keeps.held) ∙ parts.0 in
    let e : Entry ShipWhat = record { at = c.args.at; what = Send call; acts = send_due (held h) call } in
    accepted who h c.args.at (Send call) (send_due (held h) call) _ late event stands.0 none refl
    (keeps_after who h e ship _ false false keeps (record { place = refl; delay = refl; alert = refl })
    (none_sent is_end ends_missed (held h) call) (none_sent is_attempt attempts_missed (held h) call)
    (record { own = refl; groups = refl; last = refl; position = refl; time = refl; alert = refl; attempted = refl; delays = refl })
    (c.in_ok-send.ensures.held ∙ ap (λ (l : Places). after_sending l call c.args.at) keeps.held ∙ sym (after_send ship_occurs e h who.own call refl refl none)))
