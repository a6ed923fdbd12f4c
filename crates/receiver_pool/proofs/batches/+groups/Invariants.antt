use Rattle.std.proofs.Common.{◌+◌, ◌-◌, ◌*◌}
use Rattle.receiver_pool.proofs.batches.+groups.Given as goal

abbrev pub decreases-join+arg2 : goal.decreases-join+arg2
decreases-join+arg2 g l = 2 * (l.middle - l.low) + 1

abbrev pub decreases-join+arg3 : goal.decreases-join+arg3
decreases-join+arg3 g l = 2 * (l.high - l.middle) + 1

abbrev pub decreases-fork_groups : goal.decreases-fork_groups
decreases-fork_groups g l = 2 * (l.high - l.low)
