use Rattle.std.proofs.Common.{◌≡◌, ◌+◌, ◌≤◌, length}
use Rattle.slot_evidence.specs.Facts.{Facts}
use Rattle.slot_evidence.specs.Sheet.{IsEnds}
use Rattle.slot_join.specs.Extra.{IsShownFrom}
use Rattle.slot_join.proofs.extras.shown_from.Given as goal

abbrev pub invariant-loop-p : goal.invariant-loop-p
invariant-loop-p l = record {
  place : l.from + length l.symbols.items ≡ l.p;
  within : l.p ≤ 64;
  shown : (F : Facts) → IsEnds F l.sheet → IsShownFrom F l.from l.symbols.items;
}
