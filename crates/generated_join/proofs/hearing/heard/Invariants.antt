use Rattle.generated_join.proofs.Overwritten.{SignsOverwritten}
use Rattle.generated_join.proofs.hearing.heard.Given as goal

abbrev pub invariant-loop-slot : goal.invariant-loop-slot
invariant-loop-slot l = SignsOverwritten l.group l.receiver l.slots l.slot l.signs.items
