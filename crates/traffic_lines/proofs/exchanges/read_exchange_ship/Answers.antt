use Rattle.line_grammar.proofs.Rows.{among_read}
use Rattle.traffic_lines.proofs.PointRows.{identity_rows, world_ship_among}
use Rattle.traffic_lines.proofs.exchanges.read_exchange_ship.Goals as goal

pub returns : goal.returns
returns c = among_read identity_rows world_ship_among _ _ c.whole.ensures
