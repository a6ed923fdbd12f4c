use Rattle.std.proofs.Common.{◌≡◌, ℕ, ◌+◌, ◌<◌, min, length, slice_index}
use Rattle.slot_evidence.proofs.reading.leasts_of.Given as goal

abbrev pub invariant-loop-p : goal.invariant-loop-p
invariant-loop-p l = record {
  long : length l.leasts ≡ 64;
  each : (k : ℕ) → k < l.p → slice_index l.leasts k ≡ min (slice_index l.shown.dx k) (slice_index l.shown.rx (k + 2));
}
