use Rattle.std.proofs.Common.{◌≡◌, None, Some}
use Rattle.call_values.specs.declared.calls.Call.{Call}
use Rattle.evidence_board.specs.Views.{given_sheet, seen_sheet}
use Rattle.live_watch.specs.Watching.{Reports}
use Rattle.live_watch.proofs.watching.poll_meanwhile.Given as goal

abbrev pub invariant-loop : goal.invariant-loop
invariant-loop g l = record {
  board : l.watcher.seat.table ≡ l.board;
  share : l.watcher.seat.view.share ≡ l.fn.watcher.seat.view.share;
  given : given_sheet l.watcher.seat.view ≡ given_sheet l.fn.watcher.seat.view;
  told : (call : Call) → l.fn.watcher.told ≡ Some call → l.watcher.told ≡ Some call;
  untold : l.watcher.told ≡ None → (call : Call) → Reports (seen_sheet l.watcher.seat.view) call → ⊥;
}
