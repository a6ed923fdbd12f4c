use Rattle.std.proofs.Common.{◌≡◌, ◌*◌, ◌≤◌, length, vec_len, vec_capacity}
use Rattle.phasing.proofs.PackedBits.{PackedFront}
use Rattle.phasing.proofs.packed.Reception.of_signs.Given as goal

abbrev pub invariant-loop-block : goal.invariant-loop-block
invariant-loop-block l = record {
  front : PackedFront l.signs l.rest l.planes.items;
  count : vec_len l.planes ≡ length l.planes.items;
  room : length l.signs ≤ 64 * vec_capacity l.planes;
}

abbrev pub decreases-loop-block : goal.decreases-loop-block
decreases-loop-block l = length l.rest
