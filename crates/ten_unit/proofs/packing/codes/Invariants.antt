use Rattle.std.proofs.Common.{◌≡◌, ◌<◌, length, ℕ, slice_index, slice_index_or}
use Rattle.ten_unit.specs.declared.character.Element.TheVariants.{Lost}
use Rattle.ten_unit.specs.inside.Codes.{code_of}
use Rattle.ten_unit.proofs.packing.codes.Given as goal

abbrev pub invariant-loop-i : goal.invariant-loop-i
invariant-loop-i l = record {
  long : length l.codes ≡ 64;
  each : (k : ℕ) → k < l.i → slice_index l.codes k ≡ code_of (slice_index_or l.block k Lost);
}
