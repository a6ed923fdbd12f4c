use Rattle.line_grammar.proofs.Repeats.{grown_column}
use Rattle.line_grammar.proofs.laws.growing_grammars_are_read.Goals as goal

pub returns : goal.returns
returns c = grown_column
