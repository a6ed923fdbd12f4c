use Rattle.std.proofs.Common.{◌&&◌, arith}
use Rattle.std.proofs.lemmas.Bool.{and_parts}
use Rattle.phasing.specs.inside.Places.{element_at}
use Rattle.phasing.proofs.WholeStarts.{whole, whole_start}
use Rattle.phasing.proofs.intact.intact_lead.Goals as goal

pub returns-then-early-later : goal.returns-then-early-later
returns-then-early-later g c =
    let list = g.E.Elements.list c.args.e in
    let e = element_at list in
    let all = and_parts (c.agree-early.result && c.agree-later.result) c.ends_start.result c.if-early-later.true in
    let two = and_parts c.agree-early.result c.agree-later.result all.0 in
    let end = c.ends_start.ensures _ e all.1 c.planes_from-3.ensures in
    whole_start list _ end.format end.known
    (whole list _ (omega (arith, c.if-dots-gt63.false))
    (c.agree.ensures 150 e c.if-not-agree.false c.planes_from-first.ensures)
    (c.agree-early.ensures _ e two.0 c.planes_from.ensures)
    (c.agree-later.ensures _ e two.1 c.planes_from-2.ensures)
    end)
