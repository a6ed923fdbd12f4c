use Rattle.std.proofs.Common.{◌≡◌, ◌≤◌, ◌++◌, length, take, drop, ◌+◌}
use Rattle.std.specs.Prelude.{map}
use Rattle.traffic_rules.specs.Repeating.{repeats, ticked}
use Rattle.traffic_rules.proofs.repeating.repeat.Given as goal

abbrev pub invariant-loop-index : goal.invariant-loop-index
invariant-loop-index l = record {
  sixteen : length l.fn.held ≡ 16;
  range : l.index ≤ 16;
  room : length l.acts.items ≤ 16 + l.index;
  acts : l.acts.items ≡ l.fn.acts.items ++ repeats l.at 1 (take l.index l.fn.held);
  held : l.held ≡ map (ticked l.at) (take l.index l.fn.held) ++ drop l.index l.fn.held;
}
