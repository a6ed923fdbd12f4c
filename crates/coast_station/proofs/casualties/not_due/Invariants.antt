use Rattle.std.proofs.Common.{◌≡◌, ◌≤◌, length, take}
use Rattle.coast_station.specs.inside.Left.{not_due}
use Rattle.coast_station.proofs.casualties.not_due.Given as goal

abbrev pub invariant-loop-casualty : goal.invariant-loop-casualty
invariant-loop-casualty l = record {
  left : l.rest.items ≡ not_due l.at (take l.casualty-index l.entries);
  few : length l.rest.items ≤ l.casualty-index;
}
