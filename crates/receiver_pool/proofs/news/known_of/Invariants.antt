use Rattle.std.proofs.Common.{◌≡◌, ℕ, ◌<◌, length, slice_index}
use Rattle.slot_evidence.specs.Facts.{Facts}
use Rattle.receiver_pool.specs.Groups.{AreAlikeBeyond, known_at}
use Rattle.receiver_pool.proofs.news.known_of.Given as goal

abbrev pub invariant-loop-group : goal.invariant-loop-group
invariant-loop-group l = record {
  count : length l.sheets.items ≡ l.group-index;
  known : (k : ℕ) → k < l.group-index → (F G : Facts) → AreAlikeBeyond (known_at l.sheets.items k) F G → AreAlikeBeyond (known_at l.known (slice_index l.groups k)) F G;
}
