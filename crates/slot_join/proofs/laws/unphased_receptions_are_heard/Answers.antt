use Rattle.std.proofs.Common.{◌+◌, length}
use Rattle.slot_join.proofs.OneWay.{past_the_end, heard_at}
use Rattle.slot_join.proofs.laws.unphased_receptions_are_heard.Goals as goal

pub returns-clause-named : goal.returns-clause-named
returns-clause-named c = λ reception list. (length reception + 150, past_the_end reception list)

pub returns-clause-heard : goal.returns-clause-heard
returns-clause-heard c = heard_at
