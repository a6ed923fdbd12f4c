use Rattle.line_grammar.proofs.Rows.{among_read}
use Rattle.traffic_lines.proofs.PointRows.{coast_event_rows, coast_among}
use Rattle.traffic_lines.proofs.reading.read_coast_line.Goals as goal

pub whole-requires : goal.whole-requires
whole-requires c = record { sound = coast_event_rows.sound }

pub returns : goal.returns
returns c = among_read coast_event_rows coast_among _ _ c.whole.ensures
