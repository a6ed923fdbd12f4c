use Rattle.call_grammar.proofs.ReadBack.{reads_back}
use Rattle.call_grammar.proofs.laws.read_back.Goals as goal

pub returns : goal.returns
returns c = reads_back
