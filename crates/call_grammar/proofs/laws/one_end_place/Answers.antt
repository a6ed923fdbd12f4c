use Rattle.call_grammar.proofs.LastSymbols.{end_then_check}
use Rattle.call_grammar.proofs.laws.one_end_place.Goals as goal

pub returns : goal.returns
returns c = end_then_check
