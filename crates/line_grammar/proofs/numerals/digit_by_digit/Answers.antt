use Rattle.std.proofs.Common.{arith}
use Rattle.line_grammar.proofs.NumeralSteps.{passed_none, passed_more, passed_end, passed_stop, passed_all, passed_small, one_less}
use Rattle.line_grammar.proofs.numerals.digit_by_digit.Goals as goal

pub loop-more-init : goal.loop-more-init
loop-more-init c = passed_none _ _ _ c.requires.ranges

pub returns-in_default-clause-left : goal.returns-in_default-clause-left
returns-in_default-clause-left c = passed_end _ _ _ _ _ _ _ c.loop-more.invariant (one_less _ c.loop-more-test.true) c.in_default.ensures.cases

pub with_digit-requires-clause-more : goal.with_digit-requires-clause-more
with_digit-requires-clause-more c = omega (arith, c.loop-more.invariant.count, c.requires.width)

pub with_digit-requires-clause-number : goal.with_digit-requires-clause-number
with_digit-requires-clause-number c = passed_small _ _ _ _ _ _ c.loop-more.invariant c.requires.ranges c.requires.width

pub returns-in_default-with_digit-clause-left : goal.returns-in_default-with_digit-clause-left
returns-in_default-with_digit-clause-left c =
    passed_stop _ _ _ _ _ _ _ _ _ c.loop-more.invariant (one_less _ c.loop-more-test.true) c.in-Some.ensures.cases.0 c.in_default-with_digit.ensures

pub loop-more-preserved : goal.loop-more-preserved
loop-more-preserved c =
    let next = c.in-Some-with_digit.ensures in
    passed_more _ _ _ _ _ _ _ _ _ _ c.loop-more.invariant (one_less _ c.loop-more-test.true) c.in-Some.ensures.cases.0 next.0 next.1

pub returns-clause-number : goal.returns-clause-number
returns-clause-number c =
    passed_all _ _ _ _ _ _ c.loop-more.invariant (omega (arith, c.loop-more-test.false))
