use Rattle.std.proofs.Common.{ℕ, [], List, take, refl, arith, sym, subst}
use Rattle.std.proofs.lemmas.List.{take_more, take_all}
use Rattle.watch_groups.specs.inside.Begun.{AreWatched}
use Rattle.watch_groups.proofs.Begun.{none_watched}
use Rattle.watch_groups.proofs.telling.watcher_of.Goals as goal

pub loop-group-init : goal.loop-group-init
loop-group-init c = none_watched c.args.groups.now [] c.new-watcher.result refl c.new-watcher.ensures

pub loop-group-preserved : goal.loop-group-preserved
loop-group-preserved c =
    let named = c.args.named.now in
    let i = c.loop-group.group-index in
    subst (λ (l : List ℕ). AreWatched c.args.groups.now l c.watch_group.new.watcher) (sym (take_more named i 0 (omega arith))) (c.in_ok-watch_group.ensures (take i named) c.loop-group.invariant)

pub returns : goal.returns
returns c = subst (λ (l : List ℕ). AreWatched c.args.groups.now l c.loop-group.watcher) (take_all c.loop-group.group-index c.args.named.now (omega arith)) c.loop-group.invariant
