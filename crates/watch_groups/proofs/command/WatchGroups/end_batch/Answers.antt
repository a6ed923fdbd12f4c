use Rattle.std.proofs.Common.{◌≡◌, ℕ, true, List, [], sym, subst}
use Rattle.join_groups.specs.Groups.{is_among, is_named, group_facts}
use Rattle.watch_groups.specs.inside.Kept.{LooksThrough}
use Rattle.watch_groups.proofs.command.WatchGroups.end_batch.Goals as goal

pub returns-clause-told : goal.returns-clause-told
returns-clause-told g c = λ said keeps named.
    let self = c.args.self.now in
    subst (λ (l : List ℕ). LooksThrough said l [] self.told c.args.out.now.items c.look_through.new.told c.look_through.new.out.items) c.deref-2.ensures.value
    (c.in_ok-look_through.ensures said (c.in_ok-watcher.ensures.holds (is_named said) (group_facts said) keeps)
    (subst (λ (l : List ℕ). (k : ℕ) → is_among l k ≡ true → is_named said k ≡ true) (sym c.deref-2.ensures.value) named))
