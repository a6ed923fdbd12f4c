use Rattle.std.proofs.Common.{ap}
use Rattle.line_grammar.specs.Grammar.{second}
use Rattle.traffic_lines.proofs.points.event.Goals as goal

pub returns : goal.returns
returns c = (c.in_ok-at.ensures.0, (c.in_ok-at.ensures.1.0, c.in_ok-at.ensures.1.1, ap second c.in_ok-at.ensures.1.2))
