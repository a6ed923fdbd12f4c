use Rattle.std.proofs.Common.{◌≡◌, ℕ, length}
use Rattle.slot_evidence.specs.Facts.{Facts, union}
use Rattle.receiver_pool.specs.Groups.{AreSheets}
use Rattle.receiver_pool.specs.Rows.{AreSeats}
use Rattle.receiver_pool.specs.inside.Turns.{is_turn}
use Rattle.receiver_pool.specs.inside.Numbers.{place_part}
use Rattle.receiver_pool.proofs.at_once.post_turns.Given as goal

abbrev pub invariant-loop-index : goal.invariant-loop-index
invariant-loop-index l = record {
  count : length l.seats ≡ length l.boards;
  shown : AreSheets (place_part (is_turn l.workers l.entered.low l.entered.high) l.batch l.places l.index) l.sheets (length l.boards);
  posted : (share : ℕ) (F : ℕ → Facts) → AreSeats share F l.boards l.initial.seats
      → AreSeats share (λ k. union (F k) (place_part (is_turn l.workers l.entered.low l.entered.high) l.batch l.places l.index k)) l.boards l.seats;
}
