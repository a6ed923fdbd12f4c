use Rattle.std.proofs.Common.{[], refl, sym, ◌∙◌}
use Rattle.ship_station.specs.declared.events.ShipWhat.TheVariants.{Position}
use Rattle.ship_station.proofs.Steps.{accepted, holds_on}
use Rattle.ship_station.proofs.Delays.{none_given_none_used}
use Rattle.ship_station.proofs.ships.Ship.keep_position.Goals as goal

pub returns-clause-goes_on : goal.returns-clause-goes_on
returns-clause-goes_on c who h stands late event =
    let keeps = stands.1 in
    accepted who h c.args.at (Position c.args.position c.args.time) [] _ late event stands.0 refl refl (record {
      own = keeps.own;
      groups = keeps.groups;
      last = refl;
      position = refl;
      time = refl;
      alert = keeps.alert;
      attempted = keeps.attempted;
      delays = keeps.delays ∙ sym (none_given_none_used h);
      held = keeps.held ∙ sym (holds_on (record { at = c.args.at; what = Position c.args.position c.args.time; acts = [] }) h refl (record { begin = λ k. refl; end = λ k. refl }));
    })
