use Rattle.std.proofs.Common.{take}
use Rattle.long_capture.specs.Captures.{left, reached, StandsFor, Ending}
use Rattle.long_capture.specs.Starts.{starts_below}
use Rattle.long_capture.specs.Told.{AreStarts}
use Rattle.long_capture.proofs.listing.starts_of.Given as goal

abbrev pub invariant-loop-x : goal.invariant-loop-x
invariant-loop-x l = record {
  stands : StandsFor l.capture (take l.x-index l.e);
  are : AreStarts l.e (starts_below l.e (reached l.capture)) l.list.items;
}

abbrev pub invariant-loop-start : goal.invariant-loop-start
invariant-loop-start l = record {
  ending : Ending l.capture l.e;
  are : AreStarts l.e (starts_below l.e (reached l.capture)) l.list.items;
}

abbrev pub decreases-loop-start : goal.decreases-loop-start
decreases-loop-start l = left l.capture
