use Rattle.std.proofs.Common.{◌≡◌, Some, sym}
use Rattle.join_groups.proofs.Rising.{found}
use Rattle.join_groups.proofs.Holding.{known_is_not_full, holds_named}
use Rattle.join_groups.proofs.groups.NamedGroups.number_of.Goals as goal

pub returns-in-Some-clause-ok : goal.returns-in-Some-clause-ok
returns-in-Some-clause-ok c = λ named F holds.
    let old = c.args.self.now in
    let is : found old.numbers.entries c.args.group ≡ Some c.in-Some.number.now = sym c.in-Some.ensures.value in (
      known_is_not_full (found old.numbers.entries) old.sheets.items old.batch.items named F c.args.group c.in-Some.number.now is holds,
      holds_named (found old.numbers.entries) old.sheets.items old.batch.items named F c.args.group c.in-Some.number.now is holds,
      is,
    )
