use Rattle.std.proofs.Common.{refl}
use Rattle.line_grammar.proofs.SectionSteps.{leaves_form}
use Rattle.call_texts.proofs.forms.frequencies_and_end.Goals as goal

pub returns-in_err-frequencies : goal.returns-in_err-frequencies
returns-in_err-frequencies g c = leaves_form _ _ _ _ _ _ _ c.new-line.ensures c.from_residual.ensures.1 (c.in_err-frequencies.ensures _)

pub returns-in_err-eos : goal.returns-in_err-eos
returns-in_err-eos g c = leaves_form _ _ _ _ _ _ _ c.new-line.ensures c.from_residual-in_err-eos.ensures.1 (rw (c.in_ok-frequencies.ensures, c.in_err-eos.ensures) refl)

pub returns-in_err-tail : goal.returns-in_err-tail
returns-in_err-tail g c = leaves_form _ _ _ _ _ _ _ c.new-line.ensures c.from_residual-in_err-tail.ensures.1 (rw (c.in_ok-frequencies.ensures, c.in_ok-eos.ensures, ← c.rest.ensures, c.in_err-tail.ensures) refl)

pub returns : goal.returns
returns g c = (_, rw (← c.new-line.ensures, c.in_ok-frequencies.ensures, c.in_ok-eos.ensures, ← c.rest.ensures, c.in_ok-tail.ensures) refl, refl)
