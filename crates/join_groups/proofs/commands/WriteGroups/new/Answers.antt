use Rattle.std.proofs.Common.{[], length, refl, ap, arith}
use Rattle.join_groups.proofs.Keeping.{keeps_none}
use Rattle.join_groups.proofs.commands.WriteGroups.new.Goals as goal

pub returns-clause-groups : goal.returns-clause-groups
returns-clause-groups g c = record { text_is = refl; said = []; are_lines = tt; keeps = keeps_none c.new.result c.new.ensures.holds; few = omega (arith, ap length c.new.ensures.empty) }
