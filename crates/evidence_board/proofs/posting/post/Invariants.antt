use Rattle.std.proofs.Common.{◌≡◌}
use Rattle.slot_evidence.specs.Sheet.{seen_at}
use Rattle.evidence_board.specs.Steps.{admitted}
use Rattle.evidence_board.specs.inside.Through.{Through}
use Rattle.evidence_board.proofs.posting.post.Given as goal

abbrev pub invariant-loop-p : goal.invariant-loop-p
invariant-loop-p g l = record {
  table : l.token.table ≡ l.initial.token.table;
  through : Through (λ p before after. after ≡ admitted (seen_at l.sheet p) before) l.initial.token.view l.token.view l.p;
}
