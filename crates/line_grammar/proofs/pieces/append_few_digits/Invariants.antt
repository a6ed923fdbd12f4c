use Rattle.std.proofs.Common.{◌≡◌, ◌≤◌, ◌++◌, length, take, drop}
use Rattle.line_grammar.specs.Shapes.{digits}
use Rattle.line_grammar.proofs.pieces.append_few_digits.Given as goal

-- the digits that are left to write, and those that are written
abbrev pub invariant-loop-at : goal.invariant-loop-at
invariant-loop-at g l = record {
  long : length l.text ≡ 10;
  within : l.at ≤ l.width;
  digits : digits l.width l.number ≡ digits l.at l.rest ++ drop l.at (take l.width l.text);
}

abbrev pub decreases-loop-at : goal.decreases-loop-at
decreases-loop-at g l = l.at
