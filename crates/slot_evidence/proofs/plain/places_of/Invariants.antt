use Rattle.std.proofs.Common.{◌≡◌, length, ℕ, ◌<◌, Some}
use Rattle.slot_evidence.specs.Facts.{facts_at}
use Rattle.slot_evidence.specs.Seen.{IsSeen, IsLawful}
use Rattle.slot_evidence.specs.Sheet.{seen_at}
use Rattle.slot_evidence.proofs.plain.places_of.Given as goal

abbrev pub invariant-loop-p : goal.invariant-loop-p
invariant-loop-p l = record {
  long : length l.places ≡ 64;
  seen : (k : ℕ) → k < l.p → IsSeen (facts_at l.e (Some l.lead) k) (seen_at l.places k);
  lawful : (k : ℕ) → k < l.p → IsLawful (seen_at l.places k);
}
