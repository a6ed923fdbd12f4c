use Rattle.live_watch.proofs.Rounds.{FoundTo}
use Rattle.live_watch.proofs.batches.find_boards.Given as goal

abbrev pub invariant-loop-i : goal.invariant-loop-i
invariant-loop-i l = FoundTo l.known l.groups l.initial.watched l.watched l.i
