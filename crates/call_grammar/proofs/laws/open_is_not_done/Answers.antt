use Rattle.call_grammar.proofs.Fronts.{open_not_done}
use Rattle.call_grammar.proofs.laws.open_is_not_done.Goals as goal

pub returns : goal.returns
returns c = open_not_done
