use Rattle.std.proofs.Common.{◌≡◌, ℕ, ◌-◌, ◌/◌, length, vec_len, vec_capacity}
use Rattle.slot_evidence.specs.Facts.{Facts}
use Rattle.receiver_pool.specs.Rows.{AreSeats, HaveSeenNothing, no_seat}
use Rattle.receiver_pool.proofs.Turning.{Turned, Row}
use Rattle.receiver_pool.proofs.SeatRows.{AnySeat, Seats, Unseen}
use Rattle.receiver_pool.proofs.boards.split_each.Given as goal

abbrev pub invariant-loop-k : goal.invariant-loop-k
invariant-loop-k l = record {
  count : length l.seats ≡ length l.boards;
  turned : (share : ℕ) (F : ℕ → Facts) → AreSeats share F l.boards l.initial.seats → Turned (Seats (share - share / 2) F l.boards) (Seats share F l.boards) no_seat l.seats l.k (length l.boards);
  row : (share : ℕ) (F : ℕ → Facts) → AreSeats share F l.boards l.initial.seats → Row (Seats (share / 2) F l.boards) no_seat l.others.items l.k;
  unseen : HaveSeenNothing (length l.boards) l.initial.seats → Turned AnySeat Unseen no_seat l.seats l.k (length l.boards);
  others : HaveSeenNothing (length l.boards) l.initial.seats → Row Unseen no_seat l.others.items l.k;
  made : vec_len l.others ≡ l.k;
  room : vec_capacity l.others ≡ length l.boards;
}
