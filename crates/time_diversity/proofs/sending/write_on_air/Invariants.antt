use Rattle.time_diversity.proofs.Copies.{Shown}
use Rattle.time_diversity.proofs.sending.write_on_air.Given as goal

abbrev pub invariant-loop-number : goal.invariant-loop-number
invariant-loop-number l = Shown l.list l.symbols l.number
