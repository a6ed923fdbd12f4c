use Rattle.traffic_lines.proofs.Begins.{begins}
use Rattle.traffic_lines.proofs.laws.traffic_lines_begin.Goals as goal

pub returns : goal.returns
returns c = begins
