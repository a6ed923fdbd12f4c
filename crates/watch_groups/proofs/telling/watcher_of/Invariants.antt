use Rattle.std.proofs.Common.{take}
use Rattle.watch_groups.specs.inside.Begun.{AreWatched}
use Rattle.watch_groups.proofs.telling.watcher_of.Given as goal

abbrev pub invariant-loop-group : goal.invariant-loop-group
invariant-loop-group l = AreWatched l.groups (take l.group-index l.named) l.watcher
