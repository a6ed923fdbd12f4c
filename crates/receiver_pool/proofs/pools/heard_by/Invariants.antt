use Rattle.slot_evidence.specs.Sheet.{IsEnds}
use Rattle.receiver_pool.specs.inside.Turns.{is_turn, part}
use Rattle.receiver_pool.proofs.pools.heard_by.Given as goal

abbrev pub invariant-loop-index : goal.invariant-loop-index
invariant-loop-index l = IsEnds (part (is_turn l.workers l.entered.low l.entered.high) l.list l.index) l.sheet
