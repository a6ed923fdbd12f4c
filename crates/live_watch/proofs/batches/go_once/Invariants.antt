use Rattle.std.proofs.Common.{◌≡◌, ℕ, ◌<◌, true, List, Some, length}
use Rattle.receiver_pool.specs.Rows.{AreAsBefore}
use Rattle.live_watch.specs.declared.batches.WatchedGroup.{WatchedGroup}
use Rattle.live_watch.specs.inside.Rounds.{IsJudged, IsRound, watched_at}
use Rattle.live_watch.proofs.batches.go_once.Given as goal

abbrev pub invariant-loop-index : goal.invariant-loop-index
invariant-loop-index l = record {
  kept : AreAsBefore l.boards l.initial.seats l.seats;
  round : (groups : List ℕ) (begun : List WatchedGroup) → IsRound l.known groups begun l.initial.watched l.initial.seats → IsRound l.known groups begun l.watched l.seats;
  judged : l.is_last ≡ true → (groups : List ℕ) (begun : List WatchedGroup) → IsRound l.known groups begun l.initial.watched l.initial.seats
      → (i k : ℕ) → i < l.index → i < length begun → (watched_at l.watched i).board ≡ Some k → IsJudged l.known begun l.watched l.seats (watched_at begun i).group k;
}
