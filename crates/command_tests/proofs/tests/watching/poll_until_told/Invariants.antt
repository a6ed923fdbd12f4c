use Rattle.std.proofs.Common.{◌≡◌}
use Rattle.command_tests.proofs.tests.watching.poll_until_told.Given as goal

abbrev pub invariant-loop-turn : goal.invariant-loop-turn
invariant-loop-turn l = record { board : l.watcher.seat.table ≡ l.board }
