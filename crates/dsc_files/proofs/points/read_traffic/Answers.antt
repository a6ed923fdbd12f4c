use Rattle.traffic_lines.specs.Lines.{IsTrafficLine}
use Rattle.dsc_files.proofs.OneLine.{only}
use Rattle.dsc_files.proofs.points.read_traffic.Goals as goal

pub returns-clause-read : goal.returns-clause-read
returns-clause-read c = only (IsTrafficLine c.args.point) (λ a b text h k. c.one_traffic_line.ensures a b text h.1 k.1) _ _ c.line_at.ensures
