use Rattle.std.proofs.Common.{◌≡◌, ℕ, length, drop}
use Rattle.slot_evidence.specs.Facts.{Facts}
use Rattle.receiver_pool.specs.Groups.{AreSheets, AreShown}
use Rattle.receiver_pool.proofs.Entries.{Meeting}
use Rattle.receiver_pool.proofs.workers.meet_entries.Given as goal

abbrev pub invariant-loop-entry : goal.invariant-loop-entry
invariant-loop-entry l = record {
  count : length l.sheets ≡ length l.initial.sheets;
  met : (F G : ℕ → Facts) (n : ℕ) → AreSheets F l.initial.sheets n → AreShown G l.entries → Meeting F G l.sheets n (drop l.entry-index l.entries);
}
