use Rattle.std.proofs.Common.{◌≡◌, false, take}
use Rattle.receiver_pool.specs.inside.Numbers.{is_listed}
use Rattle.receiver_pool.proofs.batch_groups.find.Given as goal

abbrev pub invariant-loop-place : goal.invariant-loop-place
invariant-loop-place l = is_listed (take l.place l.groups) l.group ≡ false
