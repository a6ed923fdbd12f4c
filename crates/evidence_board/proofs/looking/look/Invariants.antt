use Rattle.std.proofs.Common.{◌≡◌, ℕ, ◌<◌, ◌≤◌, length}
use Rattle.slot_evidence.specs.declared.places.Seen.TheVariants as seen
use Rattle.slot_evidence.specs.Sheet.{seen_at}
use Rattle.evidence_board.specs.Views.{place_at, kept_of}
use Rattle.evidence_board.specs.inside.Through.{Through, LooksAt}
use Rattle.evidence_board.proofs.looking.look.Given as goal

abbrev pub invariant-loop-p : goal.invariant-loop-p
invariant-loop-p g l = record {
  table : l.token.table ≡ l.initial.token.table;
  through : Through (LooksAt g.A.Allowed.facts) l.initial.token.view l.token.view l.p;
  size : length l.sheet ≡ 64;
  below : (p : ℕ) → p < l.p → seen_at l.sheet p ≡ kept_of (place_at l.token.view p).seen;
  above : (p : ℕ) → l.p ≤ p → seen_at l.sheet p ≡ seen.None;
}
