use Rattle.expansion.proofs.OneList.{reads_back}
use Rattle.expansion.proofs.laws.read_back.Goals as goal

pub returns : goal.returns
returns c = reads_back
