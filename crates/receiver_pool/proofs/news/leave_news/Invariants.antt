use Rattle.std.proofs.Common.{◌≡◌, ℕ, length}
use Rattle.slot_evidence.specs.Facts.{Facts}
use Rattle.receiver_pool.specs.Groups.{AreSheets}
use Rattle.receiver_pool.specs.inside.Numbers.{KeepNews}
use Rattle.receiver_pool.proofs.news.leave_news.Given as goal

abbrev pub invariant-loop-k : goal.invariant-loop-k
invariant-loop-k l = record {
  count : length l.sheets ≡ length l.initial.sheets;
  left : (F : ℕ → Facts) (n : ℕ) → AreSheets F l.initial.sheets n → KeepNews l.known F l.sheets n;
}
