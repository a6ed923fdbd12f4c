use Rattle.line_grammar.proofs.Rows.{among_read}
use Rattle.traffic_lines.proofs.PointRows.{end_event_rows, end_event_among}
use Rattle.traffic_lines.proofs.exchanges.read_end_event.Goals as goal

pub whole-requires : goal.whole-requires
whole-requires c = record { sound = end_event_rows.sound }

pub returns : goal.returns
returns c = among_read end_event_rows end_event_among _ _ c.whole.ensures
