use Rattle.std.proofs.Common.{sym, subst}
use Rattle.watch_groups.proofs.Ends.{stands_paused}
use Rattle.watch_groups.proofs.command.WatchGroupsCommand.pause.Goals as goal

pub returns-in_ok-end_batch : goal.returns-in_ok-end_batch
returns-in_ok-end_batch g c = λ lines written stands.
    let kept = stands.1.watches in
    let new = c.end_batch.new.self in
    let ended = c.in_ok-end_batch.ensures.ended in (
      subst g.W.WatchedJoiner.can_join (sym c.in_ok-end_batch.ensures.workers) stands.0,
      stands_paused written c.args.out.now.items stands.1 new.groups new.named.items new.told new.heard c.end_batch.new.out.items ended.1 ended.2
          (c.in_ok-end_batch.ensures.keeps stands.1.said kept.keeps) (c.in_ok-end_batch.ensures.told stands.1.said kept.keeps kept.done.named_by),
    )
