use Rattle.std.proofs.Common.{◌∙◌, sym}
use Rattle.line_grammar.specs.Sections.{last}
use Rattle.line_grammar.proofs.Rows.{first_row, second_row, further_row}
use Rattle.traffic_lines.specs.Worlds.{IsEndEvent, end_event_parts, at_ship, at_coast}
use Rattle.traffic_lines.proofs.exchanges.EndEventRows.read.Goals as goal

pub returns-then-is_ok : goal.returns-then-is_ok
returns-then-is_ok c = first_row (last 0) IsEndEvent end_event_parts at_ship at_coast _ _ (sym c.is_ok.ensures.value ∙ c.if-is_ok.true) c.at_ship-ship.ensures

pub returns-then-is_ok-2 : goal.returns-then-is_ok-2
returns-then-is_ok-2 c =
    second_row (last 0) IsEndEvent end_event_parts at_ship at_coast _ _ _ (sym c.is_ok.ensures.value ∙ c.if-is_ok.false) (sym c.is_ok-2.ensures.value ∙ c.if-is_ok-2.true) c.at_ship-ship.ensures c.at_coast-coast.ensures

pub returns : goal.returns
returns c = further_row (last 0) IsEndEvent end_event_parts at_ship at_coast _ _ _ _ c.further.ensures c.at_ship-ship.ensures c.at_coast-coast.ensures
