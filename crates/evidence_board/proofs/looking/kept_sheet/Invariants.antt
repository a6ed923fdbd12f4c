use Rattle.std.proofs.Common.{◌≡◌, ℕ, ◌+◌, ◌<◌, length, slice_index}
use Rattle.std.specs.Mem.Slots.{slots_items}
use mathlib.Core.Option.{some}
use lib.ListN.{get_elem?}
use Rattle.evidence_board.proofs.looking.kept_sheet.Given as goal

abbrev pub invariant-loop-p : goal.invariant-loop-p
invariant-loop-p l = record {
  long : length l.leasts ≡ 64;
  as_long : length l.pasts ≡ 64;
  least : (k : ℕ) → k < l.p → get_elem? (slots_items l.closed.words) k ≡ some (slice_index l.leasts k);
  past : (k : ℕ) → k < l.p → get_elem? (slots_items l.closed.words) (64 + k) ≡ some (slice_index l.pasts k);
}
