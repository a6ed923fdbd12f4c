use Rattle.std.proofs.Common.{◌∙◌, sym}
use Rattle.line_grammar.specs.Sections.{last}
use Rattle.line_grammar.proofs.Rows.{found_row}
use Rattle.traffic_lines.specs.Events.{event, IsEvent, event_parts}
use Rattle.traffic_lines.proofs.events.EventRows.read.Goals as goal

pub returns-then-is_ok : goal.returns-then-is_ok
returns-then-is_ok g c =
    found_row (last 0) (IsEvent g.O.Rows.lawful g.C.Rows.lawful) (event_parts g.O.Rows.parts g.C.Rows.parts) (event g.O.Rows.rows g.C.Rows.rows) _ _ (sym c.is_ok.ensures.value ∙ c.if-is_ok.true)
    c.told_event-told.ensures
