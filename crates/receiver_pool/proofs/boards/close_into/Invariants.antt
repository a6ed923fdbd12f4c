use Rattle.std.proofs.Common.{◌≡◌, ℕ, ◌≤◌, [], length}
use Rattle.slot_evidence.specs.Facts.{Facts}
use Rattle.evidence_board.specs.declared.seats.TheConstants.{WHOLE}
use Rattle.receiver_pool.specs.Rows.{AreSeats, no_seat, no_table}
use Rattle.receiver_pool.proofs.Turning.{Turned, Row}
use Rattle.receiver_pool.proofs.SeatRows.{Same, Seats, Sheets, SheetCovers, Tables, Any}
use Rattle.receiver_pool.proofs.boards.close_into.Given as goal

abbrev pub invariant-loop-board : goal.invariant-loop-board
invariant-loop-board l = record {
  count : length l.sheets ≡ length l.initial.boards.items;
  inside : length l.boards.items ≤ length l.initial.boards.items;
  tables : Row (Tables l.initial.boards.items) no_table l.boards.items (length l.boards.items);
  seats : (F : ℕ → Facts) → AreSeats WHOLE F l.initial.boards.items l.initial.seats.items → Row (Seats WHOLE F l.initial.boards.items) no_seat l.seats.items (length l.boards.items);
  turned : (F : ℕ → Facts) → AreSeats WHOLE F l.initial.boards.items l.initial.seats.items → Turned Any (Sheets F) [] l.sheets (length l.boards.items) (length l.initial.boards.items);
  views : Row (Same l.initial.seats.items) no_seat l.seats.items (length l.boards.items);
  seen : Turned Any (SheetCovers l.initial.seats.items) [] l.sheets (length l.boards.items) (length l.initial.boards.items);
}

abbrev pub decreases-loop-board : goal.decreases-loop-board
decreases-loop-board l = length l.boards.items
