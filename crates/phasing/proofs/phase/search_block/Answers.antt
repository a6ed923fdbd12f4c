use Rattle.std.proofs.Common.{◌+◌, ◌*◌, arith}
use Rattle.phasing.specs.inside.Likely.{filled}
use Rattle.phasing.specs.inside.Places.{element_at}
use Rattle.phasing.proofs.Counts.{phasing_at, planes_at}
use Rattle.phasing.proofs.phase.search_block.Goals as goal

pub returns-clause-marks : goal.returns-clause-marks
returns-clause-marks g c =
    let e = element_at (g.E.Elements.list c.args.e) in
    let behind = c.planes_from-behind.result in
    c.likely_marked-fourth.ensures (64 * c.args.block + 214) e (omega arith) c.requires.next
    (planes_at behind.y behind.b _ _ e (omega arith) c.planes_from-behind.ensures)

pub returns-clause-behind : goal.returns-clause-behind
returns-clause-behind g c =
    let behind = c.planes_from-behind.result in
    planes_at behind.y behind.b _ _ (element_at (g.E.Elements.list c.args.e)) (omega arith) c.planes_from-behind.ensures

pub returns-clause-phased : goal.returns-clause-phased
returns-clause-phased g c = c.phased_among.ensures

pub phased_among-requires-clause-likely : goal.phased_among-requires-clause-likely
phased_among-requires-clause-likely g c =
    let list = g.E.Elements.list c.args.e in
    let e = element_at list in
    let behind = c.planes_from-behind.result in
    let fourth = c.likely_marked-fourth.result in
    let marked = c.likely_marked-fourth.ensures (64 * c.args.block + 214) e (omega arith) c.requires.next (planes_at behind.y behind.b _ _ e (omega arith) c.planes_from-behind.ensures) in
    c.likely_phased-likely.ensures (64 * c.args.block + 22) list c.requires.first
    (phasing_at c.args.second.now _ _ (filled e) (omega arith) c.requires.second)
    (phasing_at c.args.third.now _ _ (filled e) (omega arith) c.requires.third)
    (phasing_at fourth _ _ (filled e) (omega arith) marked)
