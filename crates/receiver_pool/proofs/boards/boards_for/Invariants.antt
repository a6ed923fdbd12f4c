use Rattle.std.proofs.Common.{◌≡◌, length, vec_len, vec_capacity}
use Rattle.slot_evidence.specs.Facts.{no_facts}
use Rattle.evidence_board.specs.declared.seats.TheConstants.{WHOLE}
use Rattle.receiver_pool.specs.Rows.{AreSeats, no_seat}
use Rattle.receiver_pool.proofs.Turning.{Row}
use Rattle.receiver_pool.proofs.SeatRows.{Unseen}
use Rattle.receiver_pool.proofs.boards.boards_for.Given as goal

abbrev pub invariant-loop : goal.invariant-loop
invariant-loop l = record {
  count : length l.boards.items ≡ l.counter;
  seats : AreSeats WHOLE (λ k. no_facts) l.boards.items l.seats.items;
  unseen : Row Unseen no_seat l.seats.items l.counter;
  boards_made : vec_len l.boards ≡ l.counter;
  boards_room : vec_capacity l.boards ≡ l.count;
  seats_made : vec_len l.seats ≡ l.counter;
  seats_room : vec_capacity l.seats ≡ l.count;
}
