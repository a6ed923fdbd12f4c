use Rattle.std.proofs.Common.{sym, ◌∙◌}
use Rattle.line_grammar.specs.Sections.{last}
use Rattle.line_grammar.proofs.Rows.{first_row, further_row}
use Rattle.traffic_lines.specs.Events.{IsHearing, hearing_parts, hear, heard}
use Rattle.traffic_lines.proofs.events.HearingRows.read.Goals as goal

pub returns-then-is_ok : goal.returns-then-is_ok
returns-then-is_ok c = first_row (last 0) IsHearing hearing_parts hear heard _ _ (sym c.is_ok.ensures.value ∙ c.if-is_ok.true) c.hear-call.ensures

pub returns : goal.returns
returns c = further_row (last 0) IsHearing hearing_parts hear heard _ _ _ _ c.further.ensures c.hear-call.ensures c.heard.ensures
