use Rattle.std.proofs.Common.{◌≡◌, ℕ, ◌+◌, ◌<◌, ◌≤◌, length, slice_index}
use Rattle.long_capture.proofs.windows.move_to_front.Given as goal

abbrev pub invariant-loop-k : goal.invariant-loop-k
invariant-loop-k l = record {
  long : length l.buffer ≡ 4096;
  front : (i : ℕ) → i < l.k → slice_index l.buffer i ≡ slice_index l.fn.buffer (2496 + i);
  back : (i : ℕ) → 2496 ≤ i → slice_index l.buffer i ≡ slice_index l.fn.buffer i;
}
