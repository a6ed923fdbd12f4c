use Rattle.line_grammar.proofs.Written.{written_is_read}
use Rattle.line_grammar.proofs.laws.written_lines_are_read.Goals as goal

pub returns : goal.returns
returns c = written_is_read
