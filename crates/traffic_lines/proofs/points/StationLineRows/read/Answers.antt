use Rattle.call_texts.specs.CallGrammar.{identity}
use Rattle.line_grammar.specs.Sections.{last}
use Rattle.line_grammar.proofs.Rows.{further_row}
use Rattle.traffic_lines.specs.Lines.{IsStation, stations_parts, ship, coast}
use Rattle.traffic_lines.proofs.points.StationLineRows.read.Goals as goal

pub returns : goal.returns
returns c = further_row (last 0) IsStation stations_parts ship (coast identity) _ _ _ _ c.further.ensures c.ship.ensures c.coast.ensures
