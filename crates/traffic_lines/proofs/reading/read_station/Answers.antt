use Rattle.line_grammar.proofs.Rows.{among_read}
use Rattle.traffic_lines.proofs.PointRows.{stations_rows, stations_among}
use Rattle.traffic_lines.proofs.reading.read_station.Goals as goal

pub returns : goal.returns
returns c = among_read stations_rows stations_among _ _ c.whole.ensures
