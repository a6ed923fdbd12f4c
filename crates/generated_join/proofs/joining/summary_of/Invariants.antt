use Rattle.generated_join.specs.inside.Counted.{HasCounted}
use Rattle.generated_join.proofs.joining.summary_of.Given as goal

abbrev pub invariant-loop-group : goal.invariant-loop-group
invariant-loop-group g l = HasCounted l.group l.summary
