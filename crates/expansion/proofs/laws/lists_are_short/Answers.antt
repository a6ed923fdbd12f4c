use Rattle.expansion.proofs.Lengths.{six-spell, length-spell}
use Rattle.expansion.proofs.laws.lists_are_short.Goals as goal

pub returns : goal.returns
returns c = λ x e lawful. (six-spell x e lawful, length-spell x e)
