use Rattle.line_grammar.proofs.Steps.{run_missed, run_taken}
use Rattle.line_grammar.proofs.reading.run.Goals as goal

pub returns-then-n-eq0-clause-left : goal.returns-then-n-eq0-clause-left
returns-then-n-eq0-clause-left c = run_missed _ _ _ c.run_length-n.ensures.length c.if-n-eq0.true

pub returns-clause-parts : goal.returns-clause-parts
returns-clause-parts c = run_taken _ _ _ _ _ c.run_length-n.ensures.length c.if-n-eq0.false c.split_at.ensures.front c.split_at.ensures.back
