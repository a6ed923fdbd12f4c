use Rattle.std.proofs.Common.{◌≡◌, Bool, true, false, not, Option, Some, None, [], ◌∷◌, is_some, is_none, refl, sym, ◌∙◌, ap, subst}
use Rattle.std.proofs.lemmas.Bool.{false≢true}
use Rattle.traffic_rules.specs.declared.acts.Act.TheVariants.{AlertEnded}
use Rattle.traffic_rules.specs.declared.refusals.StationRefusal.TheVariants.{NoAlert}
use Rattle.ship_station.specs.declared.events.ShipWhat.TheVariants.{Cancel}
use Rattle.ship_station.specs.declared.alerts.OwnAlert.{OwnAlert}
use Rattle.ship_station.specs.Past.{open_alert}
use Rattle.ship_station.proofs.Steps.{accepted, not_refused, holds_on}
use Rattle.ship_station.proofs.Delays.{none_given_none_used}
use Rattle.ship_station.proofs.ships.Ship.cancel.Goals as goal

is_on : (o : Option OwnAlert) → is_some o ≡ true → is_none o ≡ false
is_on (Some alert) some = refl
is_on None some = absurd (false≢true some)

pub returns-clause-goes_on : goal.returns-clause-goes_on
returns-clause-goes_on c who h stands late event =
    let keeps = stands.1 in
    let on : is_none (open_alert h) ≡ false =
    subst (λ (o : Option OwnAlert). is_none o ≡ false) keeps.alert (is_on c.args.self.now.alert (c.is_none.ensures ∙ ap (λ (b : Bool). not b) c.if-is_none.false)) in
    accepted who h c.args.at Cancel (AlertEnded ∷ []) _ late event stands.0 (not_refused _ NoAlert on) refl (record {
      own = keeps.own;
      groups = keeps.groups;
      last = refl;
      position = keeps.position;
      time = keeps.time;
      alert = refl;
      attempted = keeps.attempted;
      delays = keeps.delays ∙ sym (none_given_none_used h);
      held = keeps.held ∙ sym (holds_on (record { at = c.args.at; what = Cancel; acts = AlertEnded ∷ [] }) h refl (record { begin = λ k. refl; end = λ k. refl }));
    })
