use Rattle.std.proofs.Common.{refl}
use Rattle.line_grammar.proofs.SectionSteps.{leaves}
use Rattle.call_texts.proofs.sections.casualty.Goals as goal

pub returns-in_err-time-clause-reads : goal.returns-in_err-time-clause-reads
returns-in_err-time-clause-reads c = leaves _ _ _ _ _ _ c.from_residual-in_err-time.ensures.1 (λ rest. rw (c.in_ok-nature.ensures, c.in_ok-position.ensures, c.in_err-time.ensures) refl)

pub returns-in_err-comm-clause-reads : goal.returns-in_err-comm-clause-reads
returns-in_err-comm-clause-reads c = leaves _ _ _ _ _ _ c.from_residual-in_err-comm.ensures.1 (λ rest. rw (c.in_ok-nature.ensures, c.in_ok-position.ensures, c.in_ok-time.ensures, c.in_err-comm.ensures) refl)
