use Rattle.std.proofs.Common.{refl}
use Rattle.line_grammar.proofs.SectionSteps.{word_read, word_left, leaves_form}
use Rattle.call_texts.proofs.forms.all_ships.Goals as goal

pub returns-in_err-word : goal.returns-in_err-word
returns-in_err-word g c = leaves_form _ _ _ _ _ _ _ c.new-line.ensures c.from_residual.ensures.1 (word_left _ _ _ c.in_err-word.ensures.left _)

pub returns-in_err-request : goal.returns-in_err-request
returns-in_err-request g c = leaves_form _ _ _ _ _ _ _ c.new-line.ensures c.from_residual-in_err-request.ensures.1 (rw (word_read _ _ _ c.in_ok-word.ensures.read, c.in_err-request.ensures) refl)

pub returns-in_err-frequencies : goal.returns-in_err-frequencies
returns-in_err-frequencies g c = leaves_form _ _ _ _ _ _ _ c.new-line.ensures c.from_residual-in_err-frequencies.ensures.1 (rw (word_read _ _ _ c.in_ok-word.ensures.read, c.in_ok-request.ensures, c.in_err-frequencies.ensures) refl)

pub returns-in_err-tail : goal.returns-in_err-tail
returns-in_err-tail g c = leaves_form _ _ _ _ _ _ _ c.new-line.ensures c.from_residual-in_err-tail.ensures.1 (rw (word_read _ _ _ c.in_ok-word.ensures.read, c.in_ok-request.ensures, c.in_ok-frequencies.ensures, ← c.rest.ensures, c.in_err-tail.ensures) refl)

pub returns : goal.returns
returns g c = (_, rw (← c.new-line.ensures, word_read _ _ _ c.in_ok-word.ensures.read, c.in_ok-request.ensures, c.in_ok-frequencies.ensures, ← c.rest.ensures, c.in_ok-tail.ensures) refl, refl)
