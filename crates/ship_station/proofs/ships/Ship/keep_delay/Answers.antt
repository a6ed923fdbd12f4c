use Rattle.std.proofs.Common.{◌≡◌, ℕ, false, List, [], ◌∷◌, ◌++◌, length, ◌==◌, refl, sym, ◌∙◌, ap, subst}
use Rattle.traffic_rules.specs.declared.refusals.StationRefusal.TheVariants.{Full}
use Rattle.ship_station.specs.declared.events.ShipWhat.TheVariants.{Delay}
use Rattle.ship_station.proofs.Steps.{accepted, not_refused, holds_on}
use Rattle.ship_station.proofs.Delays.{delay_put_last}
use Rattle.ship_station.proofs.ships.Ship.keep_delay.Goals as goal

pub returns-clause-goes_on : goal.returns-clause-goes_on
returns-clause-goes_on c who h stands late event =
    let keeps = stands.1 in
    let room = subst (λ (l : List ℕ). (length l == 16) ≡ false) keeps.delays (sym c.is_full.ensures.value ∙ c.if-is_full.false) in
    accepted who h c.args.at (Delay c.args.delay) [] _ late event stands.0 (not_refused _ Full room) refl (record {
      own = keeps.own;
      groups = keeps.groups;
      last = refl;
      position = keeps.position;
      time = keeps.time;
      alert = keeps.alert;
      attempted = keeps.attempted;
      delays = c.push.ensures.items ∙ ap (λ (n : ℕ). c.args.self.now.delays.items ++ n ∷ []) c.number.ensures.value
          ∙ ap (λ (l : List ℕ). l ++ c.args.delay ∷ []) keeps.delays ∙ sym (delay_put_last who h c.args.delay stands.0);
      held = keeps.held ∙ sym (holds_on (record { at = c.args.at; what = Delay c.args.delay; acts = [] }) h refl (record { begin = λ k. refl; end = λ k. refl }));
    })
