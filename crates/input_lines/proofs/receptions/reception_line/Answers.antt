use Rattle.std.proofs.Common.{ap, refl, sym, subst}
use Rattle.line_grammar.proofs.Stops.{left_le, IsColumn-stops}
use Rattle.input_lines.specs.declared.join.JoinLine.TheVariants as got
use Rattle.input_lines.specs.ReceiverLine.{reception, IsLine}
use Rattle.input_lines.proofs.Faults.{reception_fault, packed_read}
use Rattle.input_lines.proofs.receptions.reception_line.Goals as goal

pub returns-in-Some : goal.returns-in-Some
returns-in-Some c = (reception _ _, (packed_read c.in_ok-group.field-0 _ _ c.in-Some.group c.in-Some.elements c.in-Some.is c.requires c.in_ok-group.ensures, refl))

pub column-requires-clause-left : goal.column-requires-clause-left
column-requires-clause-left c = left_le _ _ _ (reception_fault _ _ _ c.requires c.in-Err.ensures.left)

pub returns-in_ok-elements-in-Ok : goal.returns-in_ok-elements-in-Ok
returns-in_ok-elements-in-Ok c =
    (reception _ _, (subst (IsLine (reception _ _)) (sym c.requires) c.in-Ok.ensures.line, ap (λ e. got.Reception c.in-Ok.group e) c.in_ok-elements-in-Ok.ensures))

pub returns-in-Err : goal.returns-in-Err
returns-in-Err c = IsColumn-stops _ _ _ _ (reception_fault _ _ _ c.requires c.in-Err.ensures.left) c.column.ensures
