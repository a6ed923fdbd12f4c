use Rattle.std.proofs.Common.{◌≡◌, ℕ, length}
use Rattle.slot_evidence.specs.Facts.{no_facts}
use Rattle.receiver_pool.specs.Groups.{AreSheets}
use Rattle.receiver_pool.specs.inside.Turns.{is_turn}
use Rattle.receiver_pool.specs.inside.Numbers.{place_part}
use Rattle.receiver_pool.proofs.batch_groups.read_into.Given as goal

abbrev pub invariant-loop-index : goal.invariant-loop-index
invariant-loop-index l = record {
  count : length l.sheets ≡ length l.initial.sheets;
  shown : (n : ℕ) → AreSheets (λ k. no_facts) l.initial.sheets n → AreSheets (place_part (is_turn l.workers l.entered.low l.entered.high) l.batch l.places l.index) l.sheets n;
}
