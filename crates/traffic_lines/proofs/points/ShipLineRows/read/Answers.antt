use Rattle.line_grammar.specs.Sections.{last}
use Rattle.line_grammar.proofs.Rows.{further_row}
use Rattle.traffic_lines.specs.Lines.{IsShipLine, ship_lines_parts, group, ship_event}
use Rattle.traffic_lines.proofs.points.ShipLineRows.read.Goals as goal

pub returns : goal.returns
returns c = further_row (last 0) IsShipLine ship_lines_parts group ship_event _ _ _ _ c.further.ensures c.group.ensures c.event.ensures
