use Rattle.symbol_reader.proofs.Checks.{last_by_check}
use Rattle.call_grammar.proofs.laws.checks_tell_ends.Goals as goal

pub returns : goal.returns
returns c = last_by_check
