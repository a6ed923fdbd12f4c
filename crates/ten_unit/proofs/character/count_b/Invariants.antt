use Rattle.std.proofs.Common.{◌≡◌, ◌≤◌, take, count_by}
use Rattle.ten_unit.specs.Word.{is_b}
use Rattle.ten_unit.proofs.character.count_b.Given as goal

abbrev pub invariant-loop-element : goal.invariant-loop-element
invariant-loop-element l = (l.count ≡ count_by is_b (take l.element-index l.information)) × (l.count ≤ l.element-index)
