use Rattle.std.proofs.Common.{List, None, subst}
use Rattle.live_watch.specs.declared.batches.WatchedGroup.{WatchedGroup}
use Rattle.live_watch.specs.Batches.{Sight, IsSightOf}
use Rattle.live_watch.specs.inside.Rounds.{IsNoneOf}
use Rattle.live_watch.proofs.Watched.{none_there}
use Rattle.live_watch.proofs.batches.BatchWatcher.seen_of.Goals as goal

pub returns-in-None : goal.returns-in-None
returns-in-None c =
    subst (λ (s : List Sight). IsSightOf s c.args.group None) c.self.view_is
    (none_there c.self.inside.watched.items c.args.group (subst (λ (l : List WatchedGroup). IsNoneOf l c.args.group) c.deref.ensures.value c.in-None.ensures))
