use Rattle.line_engine.proofs.FirstFaults.{one_first, none_first, first_or_none, first_stays}
use Rattle.line_engine.proofs.laws.one_first_fault.Goals as goal

pub returns-clause-one : goal.returns-clause-one
returns-clause-one g c = one_first g.C.Command.meaning

pub returns-clause-none : goal.returns-clause-none
returns-clause-none g c = none_first g.C.Command.meaning

pub returns-clause-either : goal.returns-clause-either
returns-clause-either g c = first_or_none g.C.Command.meaning

pub returns-clause-stays : goal.returns-clause-stays
returns-clause-stays g c = first_stays g.C.Command.meaning
