use Rattle.slot_evidence.specs.Facts.{facts_of}
use Rattle.receiver_pool.proofs.Parts.{turn_taken}
use Rattle.receiver_pool.proofs.pools.take_turn.Goals as goal

pub returns-then-mine : goal.returns-then-mine
returns-then-mine c = λ F f. turn_taken c.args.mine F (facts_of c.args.heard.now) _ c.if-mine.true (c.meet.ensures F (facts_of c.args.heard.now) f c.shown_by.ensures)
