use Rattle.std.proofs.Common.{arith}
use Rattle.receiver_pool.proofs.Parts.{all_posted}
use Rattle.receiver_pool.proofs.pools.post_all.Goals as goal

pub returns-clause-ends : goal.returns-clause-ends
returns-clause-ends g c = λ F f. all_posted c.args.workers c.args.list.now F _ (omega (arith, c.requires.workers)) (c.fork.ensures.ends F f)
