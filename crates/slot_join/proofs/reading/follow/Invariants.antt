use Rattle.std.proofs.Common.{◌≡◌, length}
use Rattle.call_grammar.specs.Walk.{IsOpen}
use Rattle.slot_evidence.specs.Facts.{Facts}
use Rattle.slot_evidence.specs.Sheet.{IsEnds}
use Rattle.slot_join.specs.Shown.{IsShown, IsShownLate}
use Rattle.slot_join.proofs.reading.follow.Given as goal

abbrev pub invariant-loop-n : goal.invariant-loop-n
invariant-loop-n l = record {
  taken : length l.walk ≡ l.n;
  open_ : IsOpen l.walk;
  shown : (F : Facts) → IsEnds F l.sheet → IsShown F l.fn.walk → IsShown F l.walk;
  prompt : (F : Facts) → IsEnds F l.sheet → IsShownLate F l.walk → ⊥;
}
