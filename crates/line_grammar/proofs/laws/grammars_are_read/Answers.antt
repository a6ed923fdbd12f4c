use Rattle.line_grammar.proofs.Apart.{answers}
use Rattle.line_grammar.proofs.laws.grammars_are_read.Goals as goal

pub returns : goal.returns
returns c = answers
