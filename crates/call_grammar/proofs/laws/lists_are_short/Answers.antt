use Rattle.call_grammar.proofs.Lengths.{four-spell, length-spell}
use Rattle.call_grammar.proofs.laws.lists_are_short.Goals as goal

pub returns : goal.returns
returns c = λ d _. (four-spell d, length-spell d)
