use Rattle.std.proofs.Common.{◌+◌, ◌*◌, arith}
use Rattle.phasing.specs.inside.Places.{element_at}
use Rattle.phasing.proofs.Counts.{phasing_at, planes_at}
use Rattle.phasing.proofs.phase.marks_of.Goals as goal

pub returns-then-block-lt2 : goal.returns-then-block-lt2
returns-then-block-lt2 g c = c.before-none.ensures.exact (64 * c.args.block + 22) (g.E.Elements.list c.args.e) (omega (arith, c.if-block-lt2.true))

pub returns : goal.returns
returns g c =
    let e = element_at (g.E.Elements.list c.args.e) in
    phasing_at c.phasing_marked.result _ _ e (omega arith)
    (c.phasing_marked.ensures _ e c.planes_from.ensures (planes_at _ _ _ _ e (omega arith) c.planes_from-2.ensures))
