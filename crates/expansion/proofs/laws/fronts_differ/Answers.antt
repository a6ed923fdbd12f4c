use Rattle.expansion.proofs.OneList.{front_same}
use Rattle.expansion.proofs.laws.fronts_differ.Goals as goal

pub returns : goal.returns
returns c = front_same
