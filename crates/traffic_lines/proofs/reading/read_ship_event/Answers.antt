use Rattle.std.proofs.Common.{None}
use Rattle.line_grammar.proofs.Rows.{among_read}
use Rattle.traffic_lines.proofs.PointRows.{ship_event_rows, full_among}
use Rattle.traffic_lines.proofs.reading.read_ship_event.Goals as goal

pub whole-requires : goal.whole-requires
whole-requires c = record { sound = ship_event_rows.sound }

pub returns : goal.returns
returns c = among_read ship_event_rows (full_among None tt) _ _ c.whole.ensures
