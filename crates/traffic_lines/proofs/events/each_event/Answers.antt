use Rattle.line_grammar.specs.Sections.{last}
use Rattle.line_grammar.proofs.Rows.{or, further_row}
use Rattle.traffic_lines.specs.Events.{IsEvent, event_parts, deeds, tick, answer, decline, send}
use Rattle.traffic_lines.proofs.events.each_event.Goals as goal

pub returns : goal.returns
returns g c =
    let lawful = IsEvent g.O.Rows.lawful g.C.Rows.lawful in
    let parts = event_parts g.O.Rows.parts g.C.Rows.parts in
    further_row (last 0) lawful parts g.C.Rows.rows (deeds g.O.Rows.rows) _ _ _ _ c.further.ensures c.comes.ensures (
    further_row (last 1) lawful parts g.O.Rows.rows (or tick (or answer (or decline send))) _ _ _ _ c.further-done.ensures c.own_row.ensures (
    further_row (last 2) lawful parts tick (or answer (or decline send)) _ _ _ _ c.further-ticked.ensures c.tick.ensures (
    further_row (last 3) lawful parts answer (or decline send) _ _ _ _ c.further-answered.ensures c.answer.ensures (
    further_row (last 4) lawful parts decline send _ _ _ _ c.further-declined.ensures c.decline.ensures c.send.ensures))))
