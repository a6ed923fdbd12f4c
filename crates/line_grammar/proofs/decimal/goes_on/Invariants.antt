use Rattle.std.proofs.Common.{◌≡◌, ◌+◌, ◌-◌, ◌≤◌, ℕ}
use Rattle.line_grammar.specs.inside.Reading.{reaches}
use Rattle.line_grammar.proofs.decimal.goes_on.Given as goal

abbrev pub invariant-loop-high : goal.invariant-loop-high
invariant-loop-high l = record {
  order : l.low ≤ l.high;
  same : (steps : ℕ) × (reaches l.least l.least l.most l.number l.number ≡ reaches steps l.least l.most l.low l.high) × (l.least ≤ l.high + steps);
}

abbrev pub decreases-loop-high : goal.decreases-loop-high
decreases-loop-high l = l.least - l.high
