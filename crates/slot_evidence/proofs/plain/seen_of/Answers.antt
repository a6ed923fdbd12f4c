use Rattle.slot_evidence.proofs.Ends.{place_seen}
use Rattle.slot_evidence.proofs.plain.seen_of.Goals as goal

pub returns-clause-seen : goal.returns-clause-seen
returns-clause-seen c =
    place_seen c.args.e.now c.args.lead c.args.p _ _ _ c.requires.place c.dx_slot.ensures c.rx_slot.ensures
    (c.meet.ensures.union _ _ c.seen_in.ensures.seen c.seen_in-2.ensures.seen)
