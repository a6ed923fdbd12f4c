use Rattle.join_groups.specs.inside.Progress.{Progress}
use Rattle.join_groups.proofs.telling.append_groups.Given as goal

abbrev pub invariant-loop-group : goal.invariant-loop-group
invariant-loop-group g l = Progress g.T.GroupWriter.tells l.groups.sheets.items l.groups.numbers.entries l.group-iterator l.fn.out.items l.out.items l.is_well
