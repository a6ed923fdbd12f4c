use Rattle.std.proofs.Common.{sym, subst}
use Rattle.line_grammar.proofs.Stops.{left_le, IsColumn-stops}
use Rattle.input_lines.specs.ReceiverLine.{IsLine}
use Rattle.input_lines.proofs.Faults.{evidence_fault}
use Rattle.input_lines.proofs.evidence.evidence_line.Goals as goal

pub column-requires-clause-left : goal.column-requires-clause-left
column-requires-clause-left c = left_le _ _ _ (evidence_fault _ _ _ c.requires c.in-Err.ensures.left)

pub returns-in-Ok : goal.returns-in-Ok
returns-in-Ok c =
    let line = c.in-Ok.ensures.line in
    (line.0, (subst (IsLine line.0) (sym c.requires) line.1.0, line.1.1))

pub returns-in-Err : goal.returns-in-Err
returns-in-Err c = IsColumn-stops _ _ _ _ (evidence_fault _ _ _ c.requires c.in-Err.ensures.left) c.column.ensures
