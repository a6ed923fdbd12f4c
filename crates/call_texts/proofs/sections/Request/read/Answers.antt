use Rattle.std.proofs.Common.{refl}
use Rattle.line_grammar.proofs.SectionSteps.{leaves}
use Rattle.call_texts.proofs.sections.Request.read.Goals as goal

pub returns-in_err-first : goal.returns-in_err-first
returns-in_err-first c = leaves _ _ _ _ _ _ c.from_residual-in_err-first.ensures.1 (λ rest. rw (c.in_ok-sender.ensures, c.in_err-first.ensures) refl)

pub returns-in_err-second : goal.returns-in_err-second
returns-in_err-second c = leaves _ _ _ _ _ _ c.from_residual-in_err-second.ensures.1 (λ rest. rw (c.in_ok-sender.ensures, c.in_ok-first.ensures, c.in_err-second.ensures) refl)
