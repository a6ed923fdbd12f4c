use Rattle.line_grammar.specs.Sections.{last}
use Rattle.line_grammar.proofs.Rows.{or, further_row}
use Rattle.traffic_lines.specs.Events.{IsShipOwn, ship_parts, position, delay, alert, cancel}
use Rattle.traffic_lines.proofs.ships.ShipOwnRows.read.Goals as goal

pub returns : goal.returns
returns c =
    further_row (last 0) IsShipOwn ship_parts position (or delay (or alert cancel)) _ _ _ _ c.further.ensures c.position.ensures (
    further_row (last 1) IsShipOwn ship_parts delay (or alert cancel) _ _ _ _ c.further-delayed.ensures c.delay.ensures (
    further_row (last 2) IsShipOwn ship_parts alert cancel _ _ _ _ c.further-alerted.ensures c.alert.ensures c.cancel.ensures))
