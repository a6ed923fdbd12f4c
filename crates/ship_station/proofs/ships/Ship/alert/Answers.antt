use Rattle.std.proofs.Common.{◌≡◌, ℕ, false, Option, List, [], ◌∷◌, is_some, length, ◌==◌, refl, sym, ◌∙◌, subst}
use Rattle.ship_station.specs.declared.events.ShipWhat.TheVariants.{Alert}
use Rattle.ship_station.specs.declared.alerts.OwnAlert.{OwnAlert}
use Rattle.ship_station.specs.Past.{kept}
use Rattle.ship_station.specs.ShipRules.{attempt}
use Rattle.ship_station.proofs.Steps.{accepted, alert_accepted, holds_on}
use Rattle.ship_station.proofs.Delays.{none_given_none_used}
use Rattle.ship_station.proofs.ships.Ship.alert.Goals as goal

pub returns-clause-goes_on : goal.returns-clause-goes_on
returns-clause-goes_on c who h stands late event =
    let keeps = stands.1 in
    let off = subst (λ (o : Option OwnAlert). is_some o ≡ false) keeps.alert (sym c.is_some.ensures ∙ c.if-is_some.false) in
    let some = subst (λ (l : List ℕ). (length l == 0) ≡ false) keeps.delays (sym c.is_empty.ensures ∙ c.if-is_empty.false) in
    let acts = attempt who.own (kept h) (record { nature = c.args.nature; comm = c.args.comm }) ∷ [] in
    accepted who h c.args.at (Alert c.args.nature c.args.comm) acts _ late event stands.0 (alert_accepted who h c.args.nature c.args.comm off some) refl (record {
      own = keeps.own;
      groups = keeps.groups;
      last = refl;
      position = keeps.position;
      time = keeps.time;
      alert = refl;
      attempted = refl;
      delays = keeps.delays ∙ sym (none_given_none_used h);
      held = keeps.held ∙ sym (holds_on (record { at = c.args.at; what = Alert c.args.nature c.args.comm; acts = acts }) h refl (record { begin = λ k. refl; end = λ k. refl }));
    })
