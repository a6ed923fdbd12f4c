use Rattle.std.proofs.Common.{◌≡◌, take}
use Rattle.phasing.proofs.packed.Reception.elements.Given as goal

abbrev pub invariant-loop-i : goal.invariant-loop-i
invariant-loop-i l = l.list.items ≡ take l.i l.self
