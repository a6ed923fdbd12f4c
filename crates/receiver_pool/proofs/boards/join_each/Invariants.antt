use Rattle.std.proofs.Common.{◌≡◌, ℕ, ◌+◌, ◌≤◌, length}
use Rattle.slot_evidence.specs.Facts.{Facts, union}
use Rattle.receiver_pool.specs.Rows.{AreSeats, no_seat}
use Rattle.receiver_pool.proofs.Turning.{Turned, Row}
use Rattle.receiver_pool.proofs.SeatRows.{AnySeat, Covers, Same, Seats}
use Rattle.receiver_pool.proofs.boards.join_each.Given as goal

abbrev pub invariant-loop-other : goal.invariant-loop-other
invariant-loop-other l = record {
  count : length l.seats ≡ length l.boards;
  inside : length l.others.items ≤ length l.boards;
  turned : (share amount : ℕ) (F G : ℕ → Facts) → AreSeats share F l.boards l.initial.seats → AreSeats amount G l.boards l.initial.others.items
      → Turned (Seats share F l.boards) (Seats (share + amount) (λ j. union (F j) (G j)) l.boards) no_seat l.seats (length l.others.items) (length l.boards);
  row : (amount : ℕ) (G : ℕ → Facts) → AreSeats amount G l.boards l.initial.others.items → Row (Seats amount G l.boards) no_seat l.others.items (length l.others.items);
  rest : Row (Same l.initial.others.items) no_seat l.others.items (length l.others.items);
  seen : Turned AnySeat (Covers l.initial.others.items) no_seat l.seats (length l.others.items) (length l.boards);
}

abbrev pub decreases-loop-other : goal.decreases-loop-other
decreases-loop-other l = length l.others.items
