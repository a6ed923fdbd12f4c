use Rattle.std.proofs.Common.{length}
use Rattle.input_lines.proofs.Pairs.{IsTaken}
use Rattle.input_lines.proofs.evidence.pairs.Given as goal

abbrev pub invariant-loop-rest : goal.invariant-loop-rest
invariant-loop-rest l = IsTaken l.fn.bytes l.rest l.sheet

abbrev pub decreases-loop-rest : goal.decreases-loop-rest
decreases-loop-rest l = length l.rest
