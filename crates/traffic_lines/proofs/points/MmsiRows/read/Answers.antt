use Rattle.std.proofs.Common.{refl}
use Rattle.call_values.specs.Identity.{IsMmsi}
use Rattle.line_grammar.specs.Sections.{last}
use Rattle.line_grammar.proofs.Rows.{leaves_row}
use Rattle.traffic_lines.specs.Lines.{ship, group_parts}
use Rattle.traffic_lines.proofs.points.MmsiRows.read.Goals as goal

pub returns-in_err-mmsi : goal.returns-in_err-mmsi
returns-in_err-mmsi c = leaves_row (last 0) IsMmsi group_parts ship c.args.bytes.now c.args.bytes.now _ _ refl c.from_residual.ensures.1 c.in_err-mmsi.ensures
