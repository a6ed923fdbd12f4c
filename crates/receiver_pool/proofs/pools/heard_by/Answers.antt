use Rattle.std.proofs.Common.{arith, []}
use Rattle.std.proofs.lemmas.List.{get_or_read}
use Rattle.receiver_pool.proofs.Parts.{one_more}
use Rattle.receiver_pool.proofs.pools.heard_by.Goals as goal

pub loop-index-preserved : goal.loop-index-preserved
loop-index-preserved c =
    one_more c.args.workers c.args.entered.now.low c.args.entered.now.high c.loop-index.index c.is_mine-mine.result c.args.list.now c.index-list-index.result _
    (get_or_read c.args.list.now c.loop-index.index c.index-list-index.result (omega arith) c.index-list-index.is [])
    c.is_mine-mine.ensures
    (c.take_turn.ensures _ c.loop-index.invariant)
