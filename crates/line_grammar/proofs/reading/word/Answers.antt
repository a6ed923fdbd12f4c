use Rattle.std.proofs.Common.{◌∙◌}
use Rattle.line_grammar.proofs.Steps.{after_end, after_other, after_more, after_done}
use Rattle.line_grammar.proofs.reading.word.Goals as goal

pub returns-in_default-clause-left : goal.returns-in_default-clause-left
returns-in_default-clause-left c = c.loop-c.invariant ∙ after_end _ _ _ c.loop-c-test.true c.in_default.ensures.cases

pub returns-then-b-c-clause-left : goal.returns-then-b-c-clause-left
returns-then-b-c-clause-left c = c.loop-c.invariant ∙ after_other _ _ _ _ _ c.loop-c-test.true c.in-Some.ensures.cases.0 c.if-b-c.true

pub loop-c-preserved : goal.loop-c-preserved
loop-c-preserved c = c.loop-c.invariant ∙ after_more _ _ _ _ _ c.loop-c-test.true c.in-Some.ensures.cases.0 c.if-b-c.false

pub returns-clause-rest : goal.returns-clause-rest
returns-clause-rest c = c.loop-c.invariant ∙ after_done _ _ _ c.loop-c-test.false
