use Rattle.std.proofs.Common.{ℕ, ◌-◌, ◌≤◌, List, ◌++◌, length, map, take}
use Rattle.ten_unit.specs.declared.character.Element.{Element}
use Rattle.ten_unit.specs.Signs.{element_of}
use Rattle.stream_capture.specs.inside.Progress.{HasTold}
use Rattle.stream_capture.proofs.command.Capturing.take_signs.Given as goal

-- the elements so far were taken
abbrev pub invariant-loop-count : goal.invariant-loop-count
invariant-loop-count l = record {
  inside : l.count ≤ length l.signs;
  told : (e : List Element) (text : List ℕ) → HasTold l.fn.self e (text ++ l.fn.out.items) → HasTold l.self (e ++ take l.count (map element_of l.signs)) (text ++ l.out.items);
}

abbrev pub decreases-loop-count : goal.decreases-loop-count
decreases-loop-count l = length l.signs - l.count
