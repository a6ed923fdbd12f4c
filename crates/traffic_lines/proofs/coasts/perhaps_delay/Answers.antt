use Rattle.line_grammar.specs.Sections.{last}
use Rattle.line_grammar.proofs.Rows.{further_row}
use Rattle.traffic_lines.specs.Events.{IsPerhapsDelay, delay_parts, some_delay}
use Rattle.traffic_lines.proofs.coasts.perhaps_delay.Goals as goal

pub returns : goal.returns
returns c = further_row (last 0) IsPerhapsDelay delay_parts (λ rest. rest) some_delay _ _ _ _ c.further.ensures c.no_delay.ensures c.some_delay.ensures
