use Rattle.slot_join.proofs.Stops.{seen_there}
use Rattle.slot_join.proofs.reading.head.Goals as goal

pub returns-clause-together : goal.returns-clause-together
returns-clause-together c = λ F ends.
    c.meet.ensures.union (F 0) (F 1) (seen_there F c.args.sheet.now 0 c.at.result ends c.at.ensures.seen) (seen_there F c.args.sheet.now 1 c.at-2.result ends c.at-2.ensures.seen)
