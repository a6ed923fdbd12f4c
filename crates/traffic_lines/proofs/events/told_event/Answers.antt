use Rattle.line_grammar.specs.Sections.{nth, last}
use Rattle.line_grammar.proofs.Rows.{row_found, first_found, later_found}
use Rattle.traffic_lines.specs.Events.{IsEvent, event_parts, deeds}
use Rattle.traffic_lines.proofs.events.told_event.Goals as goal

pub returns-then-begins : goal.returns-then-begins
returns-then-begins g c =
    let lawful = IsEvent g.O.Rows.lawful g.C.Rows.lawful in
    let parts = event_parts g.O.Rows.parts g.C.Rows.parts in
    first_found (last 0) lawful parts g.C.Rows.rows (deeds g.O.Rows.rows) _ _ (row_found (nth 0) lawful parts g.C.Rows.rows _ _ c.comes.ensures)

pub returns : goal.returns
returns g c =
    let lawful = IsEvent g.O.Rows.lawful g.C.Rows.lawful in
    let parts = event_parts g.O.Rows.parts g.C.Rows.parts in
    later_found (last 0) lawful parts g.C.Rows.rows (deeds g.O.Rows.rows) _ _ (c.begins.ensures c.if-begins.false) c.told_deed.ensures
