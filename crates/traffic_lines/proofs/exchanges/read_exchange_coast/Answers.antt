use Rattle.std.proofs.Common.{Ok, Err, subst}
use Rattle.call_values.specs.Identity.{IsMmsi}
use Rattle.line_grammar.specs.Grammar.{finish}
use Rattle.line_grammar.proofs.Chains.{fault_within}
use Rattle.line_grammar.proofs.Rows.{among_read}
use Rattle.traffic_lines.specs.Lines.{coast}
use Rattle.traffic_lines.specs.Worlds.{other_identity}
use Rattle.traffic_lines.proofs.OtherIdentities.{other_rows}
use Rattle.traffic_lines.proofs.PointRows.{other_among}
use Rattle.traffic_lines.proofs.exchanges.read_exchange_coast.Goals as goal

pub column-requires-clause-left : goal.column-requires-clause-left
column-requires-clause-left c = fault_within (coast (other_identity c.args.ship) finish) _ _ (other_rows c.args.ship (subst IsMmsi c.number.ensures.value c.number.ensures.range)).sound c.in-Err.ensures

pub returns-in-Ok : goal.returns-in-Ok
returns-in-Ok c = among_read (other_rows c.args.ship (subst IsMmsi c.number.ensures.value c.number.ensures.range)) (other_among c.args.ship) _ (Ok _) c.in-Ok.ensures

pub returns-in-Err : goal.returns-in-Err
returns-in-Err c = among_read (other_rows c.args.ship (subst IsMmsi c.number.ensures.value c.number.ensures.range)) (other_among c.args.ship) _ (Err _) (c.in-Err.left, c.column.ensures, c.in-Err.ensures)
