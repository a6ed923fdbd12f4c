use Rattle.traffic_rules.proofs.PublicLaws.{sixteen_held}
use Rattle.ship_station.specs.Events.{ship_occurs}
use Rattle.ship_station.proofs.laws.sixteen_calls_are_held.Goals as goal

pub returns : goal.returns
returns c = sixteen_held ship_occurs
