use Rattle.call_grammar.proofs.Fronts.{front_same}
use Rattle.call_grammar.proofs.laws.fronts_differ.Goals as goal

pub returns : goal.returns
returns c = front_same
