use Rattle.std.proofs.Common.{ℕ, refl, ap}
use Rattle.line_grammar.specs.Grammar.{first, part}
use Rattle.line_grammar.specs.Shapes.{digits}
use Rattle.call_texts.specs.CallParts.{casualty_parts}
use Rattle.line_grammar.proofs.SectionSteps.{word_read, word_left, leaves_form}
use Rattle.call_texts.proofs.forms.alert.Goals as goal

pub returns-in_err-word : goal.returns-in_err-word
returns-in_err-word g c = leaves_form _ _ _ _ _ _ _ c.new-line.ensures c.from_residual.ensures.1 (word_left _ _ _ c.in_err-word.ensures.left _)

pub returns-in_err-from : goal.returns-in_err-from
returns-in_err-from g c = leaves_form _ _ _ _ _ _ _ c.new-line.ensures c.from_residual-in_err-from.ensures.1 (rw (word_read _ _ _ c.in_ok-word.ensures.read, c.in_err-from.ensures) refl)

pub returns-in_err-casualty : goal.returns-in_err-casualty
returns-in_err-casualty g c = leaves_form _ _ _ _ _ _ _ c.new-line.ensures c.from_residual-in_err-casualty.ensures.1 (rw (word_read _ _ _ c.in_ok-word.ensures.read, c.in_ok-from.ensures, c.in_err-casualty.ensures.reads) refl)

pub returns-in_err-tail : goal.returns-in_err-tail
returns-in_err-tail g c = leaves_form _ _ _ _ _ _ _ c.new-line.ensures c.from_residual-in_err-tail.ensures.1 (rw (word_read _ _ _ c.in_ok-word.ensures.read, c.in_ok-from.ensures, c.in_ok-casualty.ensures.reads, ← c.rest.ensures, c.in_err-tail.ensures) refl)

pub returns : goal.returns
returns g c = (_, rw (← c.new-line.ensures, word_read _ _ _ c.in_ok-word.ensures.read, c.in_ok-from.ensures, c.in_ok-casualty.ensures.reads, ← c.rest.ensures, c.in_ok-tail.ensures) refl, ap (λ (n : ℕ). first (part (digits 9 n) (casualty_parts c.in_ok-casualty.casualty (g.T.Tail.parts c.in_ok-tail.tail)))) c.in_ok-casualty.ensures.mmsi)
