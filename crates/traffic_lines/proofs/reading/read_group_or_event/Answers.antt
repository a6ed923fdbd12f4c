use Rattle.line_grammar.proofs.Rows.{among_read}
use Rattle.traffic_lines.proofs.PointRows.{ship_lines_rows, groups_among}
use Rattle.traffic_lines.proofs.reading.read_group_or_event.Goals as goal

pub whole-requires : goal.whole-requires
whole-requires c = record { sound = ship_lines_rows.sound }

pub returns : goal.returns
returns c = among_read ship_lines_rows (groups_among c.args.held c.requires) _ _ c.whole.ensures
