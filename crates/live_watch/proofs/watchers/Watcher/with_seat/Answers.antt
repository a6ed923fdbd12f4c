use Rattle.std.proofs.Common.{subst, sym}
use Rattle.slot_evidence.specs.Sheet.{IsEnds}
use Rattle.evidence_board.specs.Views.{given_sheet}
use Rattle.live_watch.specs.Watching.{Watched}
use Rattle.live_watch.proofs.watchers.Watcher.with_seat.Goals as goal

pub returns-clause-union : goal.returns-clause-union
returns-clause-union g c = λ F G f h. c.join.ensures.union F G (subst (λ (w : Watched). IsEnds F (given_sheet w.seat.view)) (sym c.self.view_is) f) h
