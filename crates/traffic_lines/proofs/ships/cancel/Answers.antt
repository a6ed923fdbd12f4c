use Rattle.std.proofs.Common.{codes, refl}
use Rattle.line_grammar.specs.Sections.{last}
use Rattle.line_grammar.proofs.Rows.{word_row}
use Rattle.traffic_lines.specs.declared.lines.ShipOwn.TheVariants.{Cancel}
use Rattle.traffic_lines.specs.Events.{IsShipOwn, ship_parts}
use Rattle.traffic_lines.proofs.ships.cancel.Goals as goal

pub returns : goal.returns
returns c = word_row (last 3) IsShipOwn ship_parts (codes "cancel") Cancel _ _ c.spelled.ensures.value c.spelled.ensures.text tt refl
