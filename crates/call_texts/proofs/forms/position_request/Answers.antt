use Rattle.std.proofs.Common.{refl}
use Rattle.line_grammar.proofs.SectionSteps.{leaves_form}
use Rattle.call_texts.proofs.forms.position_request.Goals as goal

pub returns-in_err-to : goal.returns-in_err-to
returns-in_err-to g c = leaves_form _ _ _ _ _ _ _ c.new-line.ensures c.from_residual.ensures.1 (c.in_err-to.ensures _)

pub returns-in_err-sender : goal.returns-in_err-sender
returns-in_err-sender g c = leaves_form _ _ _ _ _ _ _ c.new-line.ensures c.from_residual-in_err-sender.ensures.1 (rw (c.in_ok-to.ensures, c.in_err-sender.ensures) refl)

pub returns-in_err-tail : goal.returns-in_err-tail
returns-in_err-tail g c = leaves_form _ _ _ _ _ _ _ c.new-line.ensures c.from_residual-in_err-tail.ensures.1 (rw (c.in_ok-to.ensures, c.in_ok-sender.ensures, ← c.rest.ensures, c.in_err-tail.ensures) refl)

pub returns : goal.returns
returns g c = (_, rw (← c.new-line.ensures, c.in_ok-to.ensures, c.in_ok-sender.ensures, ← c.rest.ensures, c.in_ok-tail.ensures) refl, refl)
