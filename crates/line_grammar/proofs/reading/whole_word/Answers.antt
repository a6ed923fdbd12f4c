use Rattle.line_grammar.proofs.Steps.{after_prefix}
use Rattle.line_grammar.proofs.reading.whole_word.Goals as goal

pub returns-in-Some-clause-rest : goal.returns-in-Some-clause-rest
returns-in-Some-clause-rest c = let stripped = c.in-Some.ensures.cases in after_prefix _ _ _ stripped.0 stripped.1
