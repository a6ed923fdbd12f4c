use Rattle.std.proofs.Common.{ℕ, ◌+◌, arith, inl, inr, length-set, ◌∙◌, ap, slice_index, set}
use Rattle.std.proofs.lemmas.Bool.{cases_eq}
use Rattle.std.proofs.lemmas.List.{get_or-set_same, get_or-set_other, length-replicate}
use Rattle.evidence_board.proofs.Rests.{zeros}
use Rattle.evidence_board.proofs.words.empty_words.Goals as goal

pub loop-p-init : goal.loop-p-init
loop-p-init c = record { size = length-replicate {A = ℕ} 128 0; least = λ p below. absurd (omega arith); past = λ p above. zeros 128 p }

pub loop-p-preserved : goal.loop-p-preserved
loop-p-preserved c =
    let was = c.loop-p.invariant in
    let k = c.loop-p.p in
    record {
      size = length-set c.loop-p.words k 128 ∙ was.size;
      least = λ p below. elim (cases_eq p k) [
        | inl here ↦ ap (slice_index (set c.loop-p.words k 128)) here ∙ get_or-set_same c.loop-p.words k 128 0 (omega (arith, was.size))
        | inr apart ↦ get_or-set_other c.loop-p.words k p 128 0 apart ∙ was.least p (omega arith)
      ];
      past = λ p above. get_or-set_other c.loop-p.words k p 128 0 (λ e. omega arith) ∙ was.past p above;
    }

pub returns-clause-each : goal.returns-clause-each
returns-clause-each c =
    λ p below i.
    record { least = c.loop-p.invariant.least p (omega arith) i; past = c.loop-p.invariant.past (64 + p) (omega arith) i }
