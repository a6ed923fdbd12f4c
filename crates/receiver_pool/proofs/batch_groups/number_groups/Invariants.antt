use Rattle.receiver_pool.specs.inside.Numbers.{AreNumbered, AreRemembered}
use Rattle.receiver_pool.proofs.batch_groups.number_groups.Given as goal

abbrev pub invariant-loop-heard : goal.invariant-loop-heard
invariant-loop-heard l = record {
  numbered : AreNumbered l.batch l.heard-index l.groups.items l.places.items;
  remembered : AreRemembered l.groups.items l.remembered;
}
