use Rattle.std.proofs.Common.{◌||◌}
use Rattle.std.proofs.lemmas.Result.{IfOk-weaker}
use Rattle.slot_evidence.specs.Sheet.{facts_in}
use Rattle.receiver_pool.specs.Groups.{facts_of_group, known_at}
use Rattle.live_watch.proofs.Watched.{has_watched}
use Rattle.live_watch.proofs.batches.watch_batch.Goals as goal

-- what shows all shows what is news
pub returns-clause-shown : goal.returns-clause-shown
returns-clause-shown g c =
    let shown = facts_of_group c.args.batch.now in
    IfOk-weaker c.pool_groups_beside.result _ _
    (λ v shows. record { news = shown; shows = shows; alike = λ k p. c.ends_are_kept.ensures.itself (λ x. facts_in (known_at c.args.known.now k) p x || shown k p x) })
    c.pool_groups_beside.ensures.shown

pub returns-clause-watched : goal.returns-clause-watched
returns-clause-watched g c = IfOk-weaker c.pool_groups_beside.result _ _ (λ v gone. has_watched c.args.known.now c.args.batch.now c.args.watcher v.1 gone) c.pool_groups_beside.ensures.seen
