use Rattle.std.proofs.Common.{rules, sym}
use Rattle.std.proofs.lemmas.Bool.{eqb-false}
use Rattle.line_grammar.proofs.Steps.{ended_here, not_ended}
use Rattle.line_grammar.proofs.reading.end.Goals as goal

pub returns-then-is_empty-clause-end : goal.returns-then-is_empty-clause-end
returns-then-is_empty-clause-end c = ended_here c.args.bytes.now (search rules)

pub returns-else-is_empty-clause-left : goal.returns-else-is_empty-clause-left
returns-else-is_empty-clause-left c = not_ended c.args.bytes.now (eqb-false _ 0 (sym c.if-is_empty.ensures))
