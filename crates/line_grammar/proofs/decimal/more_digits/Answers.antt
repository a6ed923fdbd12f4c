use Rattle.line_grammar.proofs.DigitSteps.{walked_none, walked_more, halts_end, halts_stop, walked_all}
use Rattle.line_grammar.proofs.decimal.more_digits.Goals as goal

pub loop-byte-init : goal.loop-byte-init
loop-byte-init c = record { few = c.requires.first; walked = walked_none _ _ _ _ }

pub loop-byte-preserved : goal.loop-byte-preserved
loop-byte-preserved c =
    let next = c.in-Some-with_digit.ensures in
    record { few = next.0; walked = walked_more _ _ _ _ _ _ _ _ _ c.loop-byte.invariant.walked c.in-Some.ensures.cases.0 next.1 next.2 }

pub returns-in_default-clause-digits : goal.returns-in_default-clause-digits
returns-in_default-clause-digits c = walked_all _ _ _ _ _ _ c.loop-byte.invariant.walked (halts_end _ _ _ _ c.in_default.ensures.cases)

pub returns-in_default-with_digit-clause-digits : goal.returns-in_default-with_digit-clause-digits
returns-in_default-with_digit-clause-digits c =
    walked_all _ _ _ _ _ _ c.loop-byte.invariant.walked (halts_stop _ _ _ _ _ _ c.in-Some.ensures.cases.0 c.in_default-with_digit.ensures)
