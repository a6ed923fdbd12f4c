use Rattle.std.proofs.Common.{refl, ap}
use Rattle.line_grammar.specs.Sections.{nth}
use Rattle.line_grammar.proofs.Rows.{leaves_row}
use Rattle.traffic_lines.specs.Events.{IsEvent, event_parts}
use Rattle.traffic_lines.proofs.events.own_row.Goals as goal

pub returns-in_err-what : goal.returns-in_err-what
returns-in_err-what g c =
    leaves_row (nth 1) (IsEvent g.O.Rows.lawful g.C.Rows.lawful) (event_parts g.O.Rows.parts g.C.Rows.parts) g.O.Rows.rows _ c.args.bytes.now _ _ refl c.from_residual.ensures.1 c.in_err-what.ensures

pub returns : goal.returns
returns g c = (c.in_ok-what.ensures.0, (c.in_ok-what.ensures.1.0, c.in_ok-what.ensures.1.1, ap (nth 1) c.in_ok-what.ensures.1.2))
