use Rattle.std.proofs.Common.{◌+◌}
use Rattle.slot_join.proofs.Stops.{seen_there}
use Rattle.slot_join.proofs.reading.later_ends.Goals as goal

pub returns-clause-together : goal.returns-clause-together
returns-clause-together c = λ F ends.
    let n = c.args.n in
    c.meet.ensures.union (F (n + 2)) (F (n + 3)) (seen_there F c.args.sheet.now (n + 2) c.at.result ends c.at.ensures.seen) (seen_there F c.args.sheet.now (n + 3) c.at-2.result ends c.at-2.ensures.seen)
