use Rattle.line_engine.proofs.Outputs.{one_text, begins_output, begins_asked}
use Rattle.line_engine.proofs.laws.one_output.Goals as goal

pub returns-clause-one : goal.returns-clause-one
returns-clause-one g c = one_text g.C.Command.meaning

pub returns-clause-so_far : goal.returns-clause-so_far
returns-clause-so_far g c = begins_output g.C.Command.meaning

pub returns-clause-asked : goal.returns-clause-asked
returns-clause-asked g c = begins_asked g.C.Command.meaning
