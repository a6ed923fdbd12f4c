use Rattle.std.proofs.Common.{ap}
use Rattle.line_grammar.specs.Grammar.{first}
use Rattle.traffic_lines.proofs.points.ship.Goals as goal

pub returns : goal.returns
returns c = (c.in_ok-mmsi.ensures.0, (c.in_ok-mmsi.ensures.1.0, c.in_ok-mmsi.ensures.1.1, ap first c.in_ok-mmsi.ensures.1.2))
