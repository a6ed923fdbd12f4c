use Rattle.live_watch.proofs.Posting.{all_listed}
use Rattle.live_watch.proofs.watching.watch.Goals as goal

pub watch_on-requires-clause-known : goal.watch_on-requires-clause-known
watch_on-requires-clause-known g c lives last = all_listed c.all_facts_may_be_posted.ensures c.args.so_far.now c.args.list.now c.sheet_is_lawful.ensures
