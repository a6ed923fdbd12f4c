use Rattle.std.proofs.Common.{codes, ap, rules}
use Rattle.call_texts.specs.CallGrammar.{identity, address}
use Rattle.call_texts.specs.CallParts.{address_text}
use Rattle.line_grammar.specs.Grammar.{Grammar, finish, Parts, part, second}
use Rattle.line_grammar.specs.Sections.{labelled, last}
use Rattle.line_grammar.specs.Shapes.{digits}
use Rattle.line_grammar.proofs.Rows.{leaves_row, after_row, leaves_after}
use Rattle.line_grammar.proofs.SectionSteps.{both, behind}
use Rattle.traffic_lines.specs.Events.{IsCoastOwn, coast_parts, relay, ask_or_tell}
use Rattle.traffic_lines.specs.declared.lines.CoastOwn.TheVariants.{Relay}
use Rattle.traffic_lines.proofs.coasts.relay.Goals as goal

abbrev ship : Grammar → Grammar
ship = labelled (codes "relay ") identity

abbrev to : Grammar → Grammar
to = labelled (codes " to=") address

abbrev parties : Grammar → Grammar
parties rest = ship (to rest)

pub returns-in_err-ship : goal.returns-in_err-ship
returns-in_err-ship c = leaves_row (last 1) IsCoastOwn coast_parts relay _ _ _ _ c.new-line.ensures c.from_residual.ensures.1 (c.in_err-ship.ensures (to (ask_or_tell finish)))

pub returns-in_err-to : goal.returns-in_err-to
returns-in_err-to c =
    leaves_row (last 1) IsCoastOwn coast_parts relay _ _ _ _ c.new-line.ensures c.from_residual-in_err-to.ensures.1
    (behind ship to _ _ _ _ c.in_ok-ship.ensures c.in_err-to.ensures (ask_or_tell finish))

pub returns-in_err-ask : goal.returns-in_err-ask
returns-in_err-ask c =
    leaves_after (last 1) IsCoastOwn coast_parts parties ask_or_tell _ _ _ _ _ _ _ c.new-line.ensures c.from_residual-in_err-ask.ensures.1
    (both ship to _ _ _ _ _ c.in_ok-ship.ensures c.in_ok-to.ensures) c.rest.ensures c.in_err-ask.ensures

pub returns : goal.returns
returns c =
    let ask = c.in_ok-ask.ensures in
    after_row (last 1) IsCoastOwn coast_parts parties ask_or_tell _ _ _ _ _ ask.1.0 (Relay c.in_ok-ship.ship c.in_ok-to.to c.in_ok-ask.ask) c.new-line.ensures (both ship to _ _ _ _ _ c.in_ok-ship.ensures c.in_ok-to.ensures) c.rest.ensures ask.1.1
    (search rules, search rules) (ap (λ (p : Parts). second (part (digits 9 c.in_ok-ship.ship) (part (address_text c.in_ok-to.to) p))) ask.1.2)
