use Rattle.line_grammar.specs.Sections.{last}
use Rattle.line_grammar.proofs.Rows.{further_row}
use Rattle.traffic_lines.specs.Events.{IsCoastOwn, coast_parts, accept, relay}
use Rattle.traffic_lines.proofs.coasts.CoastOwnRows.read.Goals as goal

pub returns : goal.returns
returns c = further_row (last 0) IsCoastOwn coast_parts accept relay _ _ _ _ c.further.ensures c.accept.ensures c.relay.ensures
