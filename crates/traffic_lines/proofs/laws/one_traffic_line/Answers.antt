use Rattle.line_grammar.proofs.Rows.{one_row}
use Rattle.traffic_lines.proofs.PointRows.{lines_rows}
use Rattle.traffic_lines.proofs.laws.one_traffic_line.Goals as goal

pub returns : goal.returns
returns c = λ a b text h k. one_row lines_rows a b text h k
