use Rattle.line_grammar.specs.Sections.{nth}
use Rattle.line_grammar.proofs.Rows.{row_found, row_misses}
use Rattle.traffic_lines.specs.Events.{IsEvent, event_parts}
use Rattle.traffic_lines.proofs.events.own.Goals as goal

pub returns-then-not-begins-clause-missed : goal.returns-then-not-begins-clause-missed
returns-then-not-begins-clause-missed g c = λ no. c.begins.ensures c.if-not-begins.true

pub returns-clause-row : goal.returns-clause-row
returns-clause-row g c = row_found (nth 1) (IsEvent g.O.Rows.lawful g.C.Rows.lawful) (event_parts g.O.Rows.parts g.C.Rows.parts) g.O.Rows.rows _ _ c.own_row.ensures

pub returns-clause-missed : goal.returns-clause-missed
returns-clause-missed g c = λ no. row_misses (nth 1) (IsEvent g.O.Rows.lawful g.C.Rows.lawful) (event_parts g.O.Rows.parts g.C.Rows.parts) g.O.Rows.rows _ _ no c.own_row.ensures
