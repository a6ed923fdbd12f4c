use Rattle.call_grammar.proofs.Fronts.{end_same}
use Rattle.call_grammar.proofs.laws.one_check_place.Goals as goal

pub returns : goal.returns
returns c = end_same
