use Rattle.std.proofs.Common.{◌≡◌, ℕ, ◌+◌, ◌<◌, max, length, slice_index}
use Rattle.slot_evidence.specs.inside.Kept.{past_symbol}
use Rattle.slot_evidence.proofs.reading.pasts_of.Given as goal

abbrev pub invariant-loop-p : goal.invariant-loop-p
invariant-loop-p l = record {
  long : length l.pasts ≡ 64;
  each : (k : ℕ) → k < l.p → slice_index l.pasts k ≡ max (past_symbol (slice_index l.shown.dx k)) (past_symbol (slice_index l.shown.rx (k + 2)));
}
