use Rattle.receiver_pool.proofs.Naming.{none_remembered}
use Rattle.receiver_pool.proofs.batch_groups.known_place.Goals as goal

pub returns-then-place-clause-none : goal.returns-then-place-clause-none
returns-then-place-clause-none c = λ is. none_remembered c.args.groups.now c.args.remembered.now c.args.group c.requires c.if-place.true
