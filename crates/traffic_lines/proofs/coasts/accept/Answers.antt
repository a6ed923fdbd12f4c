use Rattle.std.proofs.Common.{codes, ap, rules}
use Rattle.call_texts.specs.CallGrammar.{identity}
use Rattle.line_grammar.specs.Grammar.{finish, Parts, part, first}
use Rattle.line_grammar.specs.Sections.{labelled, nth}
use Rattle.line_grammar.specs.Shapes.{digits}
use Rattle.line_grammar.proofs.Rows.{leaves_row, after_row, leaves_after}
use Rattle.traffic_lines.specs.Events.{IsCoastOwn, coast_parts, accept, perhaps_delay}
use Rattle.traffic_lines.specs.declared.lines.CoastOwn.TheVariants.{Accept}
use Rattle.traffic_lines.proofs.coasts.accept.Goals as goal

pub returns-in_err-ship : goal.returns-in_err-ship
returns-in_err-ship c = leaves_row (nth 0) IsCoastOwn coast_parts accept _ _ _ _ c.new-line.ensures c.from_residual.ensures.1 (c.in_err-ship.ensures (perhaps_delay finish))

pub returns-in_err-delay : goal.returns-in_err-delay
returns-in_err-delay c =
    leaves_after (nth 0) IsCoastOwn coast_parts (labelled (codes "accept ") identity) perhaps_delay _ _ _ _ _ _ _ c.new-line.ensures c.from_residual-in_err-delay.ensures.1 c.in_ok-ship.ensures
    c.rest.ensures c.in_err-delay.ensures

pub returns : goal.returns
returns c =
    let delay = c.in_ok-delay.ensures in
    after_row (nth 0) IsCoastOwn coast_parts (labelled (codes "accept ") identity) perhaps_delay _ _ _ _ _ delay.1.0 (Accept c.in_ok-ship.ship c.in_ok-delay.delay) c.new-line.ensures c.in_ok-ship.ensures c.rest.ensures delay.1.1
    (search rules, delay.0) (ap (λ (p : Parts). first (part (digits 9 c.in_ok-ship.ship) p)) delay.1.2)
