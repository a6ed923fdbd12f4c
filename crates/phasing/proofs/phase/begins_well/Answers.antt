use Rattle.std.proofs.Common.{◌==◌, ◌&&◌, lit<, arith}
use Rattle.std.proofs.lemmas.Bool.{and_parts}
use Rattle.dsc_symbols.specs.declared.phasing.TheConstants.{DX, RX_7}
use Rattle.phasing.specs.inside.Places.{element_at}
use Rattle.phasing.proofs.Begins.{symbol_shown, three_slots, same_symbol}
use Rattle.phasing.proofs.Counts.{planes_at}
use Rattle.phasing.proofs.phase.begins_well.Goals as goal

pub returns : goal.returns
returns g c = λ h.
    let list = g.E.Elements.list c.args.e in
    let e = element_at list in
    let lead = c.args.lead in
    let planes = planes_at _ _ _ lead e (omega (arith, c.if-lead-lt-LEAD_OF_FIRST.false)) c.planes_from-planes.ensures in
    let all = and_parts (c.symbol_at-first.result == DX && c.symbol_at-second.result == RX_7) (c.symbol_at-third.result == DX) h in
    let two = and_parts (c.symbol_at-first.result == DX) (c.symbol_at-second.result == RX_7) all.0 in
    three_slots list lead
    (symbol_shown list lead 0 DX _ c.symbol_at-first.result (lit< tt) (c.symbol_at-first.ensures lead e planes) (omega arith) (same_symbol _ DX two.0))
    (symbol_shown list lead 1 RX_7 _ c.symbol_at-second.result (lit< tt) (c.symbol_at-second.ensures lead e planes) (omega arith) (same_symbol _ RX_7 two.1))
    (symbol_shown list lead 2 DX _ c.symbol_at-third.result (lit< tt) (c.symbol_at-third.ensures lead e planes) (omega arith) (same_symbol _ DX all.1))
