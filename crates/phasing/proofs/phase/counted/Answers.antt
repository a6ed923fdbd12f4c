use Rattle.std.proofs.Common.{◌+◌, ◌*◌, arith}
use Rattle.phasing.specs.inside.Places.{element_at}
use Rattle.phasing.proofs.Counts.{phasing_at}
use Rattle.phasing.proofs.phase.counted.Goals as goal

pub returns : goal.returns
returns g c =
    let list = g.E.Elements.list c.args.e in
    let e = element_at list in
    c.phased.ensures (64 * c.args.block + 22) list c.marks_of.ensures
    (phasing_at c.marks_of-2.result _ _ e (omega arith) c.marks_of-2.ensures)
    (phasing_at c.marks_of-3.result _ _ e (omega arith) c.marks_of-3.ensures)
    (phasing_at c.marks_of-4.result _ _ e (omega arith) c.marks_of-4.ensures)
