use Rattle.line_grammar.proofs.NumeralSteps.{Passed}
use Rattle.line_grammar.proofs.numerals.digit_by_digit.Given as goal

abbrev pub invariant-loop-more : goal.invariant-loop-more
invariant-loop-more l = Passed l.width l.ranges l.fn.bytes l.more l.number l.rest

abbrev pub decreases-loop-more : goal.decreases-loop-more
decreases-loop-more l = l.more
