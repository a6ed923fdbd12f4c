use Rattle.expansion.proofs.OneList.{spell_same}
use Rattle.expansion.proofs.laws.one_list.Goals as goal

pub returns : goal.returns
returns c = spell_same
