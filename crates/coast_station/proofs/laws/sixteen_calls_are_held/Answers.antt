use Rattle.traffic_rules.proofs.PublicLaws.{sixteen_held}
use Rattle.coast_station.specs.Events.{coast_occurs}
use Rattle.coast_station.proofs.laws.sixteen_calls_are_held.Goals as goal

pub returns : goal.returns
returns c = sixteen_held coast_occurs
