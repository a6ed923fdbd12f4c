use Rattle.std.proofs.Common.{◌≡◌, ℕ, length}
use Rattle.slot_evidence.specs.Facts.{Facts, union}
use Rattle.receiver_pool.specs.Groups.{AreSheets}
use Rattle.receiver_pool.specs.Rows.{AreSeats, no_seat}
use Rattle.receiver_pool.proofs.Turning.{Turned}
use Rattle.receiver_pool.proofs.SeatRows.{Seats}
use Rattle.receiver_pool.proofs.boards.post_each.Given as goal

abbrev pub invariant-loop-k : goal.invariant-loop-k
invariant-loop-k l = record {
  count : length l.seats ≡ length l.boards;
  turned : (share : ℕ) (F G : ℕ → Facts) → AreSeats share F l.boards l.initial.seats → AreSheets G l.sheets (length l.boards)
      → Turned (Seats share (λ j. union (F j) (G j)) l.boards) (Seats share F l.boards) no_seat l.seats l.k (length l.boards);
}
