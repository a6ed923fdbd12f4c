use Rattle.line_grammar.specs.Grammar.{finish}
use Rattle.line_grammar.proofs.Chains.{fault_within}
use Rattle.traffic_lines.proofs.rows.whole.Goals as goal

pub column-requires-clause-left : goal.column-requires-clause-left
column-requires-clause-left g c = fault_within (g.V.Rows.rows finish) _ _ c.requires.sound c.in-Err.ensures

pub returns-in-Err : goal.returns-in-Err
returns-in-Err g c = (c.in-Err.left, c.column.ensures, c.in-Err.ensures)
