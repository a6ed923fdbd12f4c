use Rattle.std.proofs.Common.{◌≡◌, false, None, refl, sym, ◌∙◌, ap}
use Rattle.traffic_rules.specs.Histories.{Entry}
use Rattle.traffic_rules.specs.Holding.{Places}
use Rattle.traffic_rules.proofs.PublicLaws.{acts_of}
use Rattle.traffic_rules.specs.Answering.{answer_refusal, answer_due}
use Rattle.traffic_rules.specs.After.{after_answering}
use Rattle.traffic_rules.proofs.PublicLaws.{none_replied, after_answer}
use Rattle.ship_station.specs.declared.events.ShipWhat.{ShipWhat}
use Rattle.ship_station.specs.declared.events.ShipWhat.TheVariants.{Answer}
use Rattle.ship_station.specs.Events.{ship_occurs}
use Rattle.ship_station.specs.Past.{is_attempt, is_end}
use Rattle.ship_station.specs.ShipRules.{held, refusal_at}
use Rattle.ship_station.proofs.Steps.{accepted}
use Rattle.ship_station.proofs.Keeping.{keeps_after}
use Rattle.ship_station.proofs.Traffic.{attempts_missed, ends_missed}
use Rattle.ship_station.proofs.ships.Ship.answer.Goals as goal

pub returns-clause-goes_on : goal.returns-clause-goes_on
returns-clause-goes_on c who h stands late event =
    let keeps = stands.1 in
    let ship = c.args.self.now in
    let number = c.args.number in
    let accepts = c.args.accepts in
    let parts = acts_of (answer_refusal ship.held number) (answer_due ship.own ship.held number accepts) c.answer.new.acts.items c.in_ok-answer.ensures.answer in
    let none : refusal_at who h (Answer number accepts) ≡ None = sym (ap (λ (l : Places). answer_refusal l number) keeps.held) ∙ parts.0 in
    let acts = answer_due who.own (held h) number accepts in
    let e : Entry ShipWhat = record { at = c.args.at; what = Answer number accepts; acts = acts } in
    accepted who h c.args.at (Answer number accepts) acts _ late event stands.0 none refl
    (keeps_after who h e ship _ false false keeps (record { place = refl; delay = refl; alert = refl })
    (none_replied is_end ends_missed who.own (held h) number accepts) (none_replied is_attempt attempts_missed who.own (held h) number accepts)
    (record { own = refl; groups = refl; last = refl; position = refl; time = refl; alert = refl; attempted = refl; delays = refl })
    (c.in_ok-answer.ensures.held ∙ ap (λ (l : Places). after_answering l number) keeps.held ∙ sym (after_answer ship_occurs e h who.own number accepts refl refl none)))
