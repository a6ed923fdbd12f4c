use Rattle.std.proofs.Common.{◌≡◌, ◌≤◌, length, take}
use Rattle.coast_station.specs.Accepting.{acknowledgements_due}
use Rattle.coast_station.proofs.casualties.acknowledge.Given as goal

abbrev pub invariant-loop-casualty : goal.invariant-loop-casualty
invariant-loop-casualty l = record {
  due : l.acts.items ≡ acknowledgements_due l.own l.at (take l.casualty-index l.entries);
  few : length l.acts.items ≤ l.casualty-index;
}
