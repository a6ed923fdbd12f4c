use Rattle.std.proofs.Common.{rules, ◌≡◌, ℕ, Option, None, Bool, false, sym, subst, ap, ◌∙◌}
use Rattle.std.specs.Prelude.{◌↔◌}
use Rattle.join_groups.specs.Holds.{number_in}
use Rattle.join_groups.proofs.Holding.{number_none}
use Rattle.join_groups.proofs.groups.NamedGroups.number.Goals as goal

pub returns-clause-number : goal.returns-clause-number
returns-clause-number c = search rules

pub returns-clause-named : goal.returns-clause-named
returns-clause-named c = λ named F holds.
    let self = c.args.self.now in
    let group = c.args.group in
    subst (λ (o : Option ℕ). o ≡ None ↔ named group ≡ false) (sym (returns-clause-number c))
    (number_none (named group) (F group) holds.closed _ self.batch.items (number_in self group) (holds.held group))
