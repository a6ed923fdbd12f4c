use Rattle.std.proofs.Common.{◌≡◌, ℕ, ◌<◌, min, length, slice_index}
use Rattle.slot_evidence.proofs.sheets.least.Given as goal

abbrev pub invariant-loop-p : goal.invariant-loop-p
invariant-loop-p l = record {
  long : length l.numbers ≡ 64;
  each : (k : ℕ) → k < l.p → slice_index l.numbers k ≡ min (slice_index l.ours k) (slice_index l.theirs k);
}
