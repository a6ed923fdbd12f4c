use Rattle.std.proofs.Common.{refl}
use Rattle.line_grammar.specs.Grammar.{Grammar, none}
use Rattle.line_grammar.specs.Sections.{nth}
use Rattle.line_grammar.proofs.Rows.{leaves_row, ends, goes_on}
use Rattle.traffic_lines.specs.Events.{IsPerhapsDelay, delay_parts}
use Rattle.traffic_lines.proofs.coasts.no_delay.Goals as goal

pub returns-in_err-end : goal.returns-in_err-end
returns-in_err-end c = leaves_row (nth 0) IsPerhapsDelay delay_parts (λ (rest : Grammar). rest) c.args.bytes.now c.args.bytes.now _ _ refl c.from_residual.ensures.1 (goes_on _ _ c.in_err-end.ensures.left)

pub returns : goal.returns
returns c = (tt, (none, ends _ c.in_ok-end.ensures.end, refl))
