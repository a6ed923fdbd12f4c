use Rattle.std.proofs.Common.{◌≡◌, ℕ, ◌<◌, ◌≤◌, length, slice_index}
use Rattle.evidence_board.proofs.words.empty_words.Given as goal

abbrev pub invariant-loop-p : goal.invariant-loop-p
invariant-loop-p l = record {
  size : length l.words ≡ 128;
  least : (p : ℕ) → p < l.p → slice_index l.words p ≡ 128;
  past : (p : ℕ) → 64 ≤ p → slice_index l.words p ≡ 0;
}
