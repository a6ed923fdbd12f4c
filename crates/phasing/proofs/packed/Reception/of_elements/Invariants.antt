use Rattle.phasing.proofs.PackedBits.{KeptSoFar}
use Rattle.phasing.proofs.packed.Reception.of_elements.Given as goal

abbrev pub invariant-loop-block : goal.invariant-loop-block
invariant-loop-block l = KeptSoFar l.e l.block l.planes.items
