use Rattle.watch_groups.proofs.Ends.{ends_watch}
use Rattle.watch_groups.proofs.command.WatchGroupsCommand.finish.Goals as goal

pub returns-clause-ends : goal.returns-clause-ends
returns-clause-ends g c = λ lines written stands.
    let kept = stands.1.watches in
    let told = c.in_ok-append_groups.ensures stands.1.said (c.in_ok-end_batch.ensures.keeps stands.1.said kept.keeps) c.in_ok-end_batch.ensures.ended.0 in
    ends_watch written c.args.out.now.items stands.1 c.end_batch.new.self.told c.end_batch.new.out.items c.append_groups.new.out.items told.0 c.in_ok-append_groups.field-0 c.of.result
    (c.in_ok-end_batch.ensures.told stands.1.said kept.keeps kept.done.named_by) told.1.0 told.1.1
    c.of.ensures
