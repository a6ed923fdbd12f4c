use Rattle.std.proofs.Common.{ℕ, ◌+◌, ◌≤◌, List, ◌++◌}
use Rattle.ten_unit.specs.declared.character.Element.{Element}
use Rattle.long_capture.specs.Captures.{left}
use Rattle.stream_capture.specs.inside.Progress.{EndsTold}
use Rattle.stream_capture.proofs.command.Capturing.take_end.Given as goal

-- the starts so far were told, and so many may come yet
abbrev pub invariant-loop-start : goal.invariant-loop-start
invariant-loop-start l = (l.self.count + left l.self.capture ≤ l.fn.self.count + left l.fn.self.capture) × ((e : List Element) (text : List ℕ) → EndsTold l.fn.self e (text ++ l.fn.out.items) → EndsTold l.self e (text ++ l.out.items))

abbrev pub decreases-loop-start : goal.decreases-loop-start
decreases-loop-start l = left l.self.capture
