use Rattle.call_grammar.proofs.Fronts.{spell_same}
use Rattle.call_grammar.proofs.laws.one_list.Goals as goal

pub returns : goal.returns
returns c = spell_same
