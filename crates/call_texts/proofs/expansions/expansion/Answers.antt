use Rattle.std.proofs.Common.{refl, ap}
use Rattle.line_grammar.specs.Grammar.{second}
use Rattle.line_grammar.proofs.SectionSteps.{word_read, word_left, leaves_form}
use Rattle.call_texts.proofs.expansions.expansion.Goals as goal

pub returns-in_err-word : goal.returns-in_err-word
returns-in_err-word c = leaves_form _ _ _ _ _ _ _ c.new-line.ensures c.from_residual.ensures.1 (word_left _ _ _ c.in_err-word.ensures.left _)

pub returns-in_err-expansion : goal.returns-in_err-expansion
returns-in_err-expansion c =
    leaves_form _ _ _ _ _ _ _ c.new-line.ensures c.from_residual-in_err-expansion.ensures.1 (rw (word_read _ _ _ c.in_ok-word.ensures.read, ← c.rest.ensures, c.in_err-expansion.ensures) refl)

pub returns : goal.returns
returns c = (_, rw (← c.new-line.ensures, word_read _ _ _ c.in_ok-word.ensures.read, ← c.rest.ensures, c.in_ok-expansion.ensures.1) refl, ap second c.in_ok-expansion.ensures.2)
