use Rattle.std.proofs.Common.{◌≤◌, List}
use Rattle.ten_unit.specs.declared.character.Element.{Element}
use Rattle.long_capture.specs.Captures.{reached, left, Ending}
use Rattle.long_capture.specs.Told.{AreQuiet}
use Rattle.long_capture.proofs.captures.Capture.finish.Given as goal

abbrev pub invariant-loop-self : goal.invariant-loop-self
invariant-loop-self l = record {
  fewer : left l.self ≤ left l.fn.self;
  ending : (e : List Element) → Ending l.fn.self e → Ending l.self e;
  quiet : (e : List Element) → Ending l.fn.self e → AreQuiet e (reached l.fn.self) (reached l.self);
}

abbrev pub decreases-loop-self : goal.decreases-loop-self
decreases-loop-self l = left l.self
