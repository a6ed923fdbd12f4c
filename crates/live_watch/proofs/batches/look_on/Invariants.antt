use Rattle.std.proofs.Common.{ℕ, List}
use Rattle.receiver_pool.specs.Rows.{AreAsBefore}
use Rattle.live_watch.specs.declared.batches.WatchedGroup.{WatchedGroup}
use Rattle.live_watch.specs.inside.Rounds.{IsRound}
use Rattle.live_watch.proofs.batches.look_on.Given as goal

abbrev pub invariant-loop : goal.invariant-loop
invariant-loop l = record {
  kept : AreAsBefore l.boards l.initial.seats l.seats;
  round : (groups : List ℕ) (begun : List WatchedGroup) → IsRound l.known groups begun l.initial.watched l.initial.seats → IsRound l.known groups begun l.watched l.seats;
}
