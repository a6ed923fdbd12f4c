use Rattle.traffic_rules.proofs.PublicLaws.{sent_at_most_twice}
use Rattle.ship_station.specs.Events.{ship_occurs}
use Rattle.ship_station.specs.ShipRules.{ship_rules}
use Rattle.ship_station.proofs.Sendings.{entry_handles}
use Rattle.ship_station.proofs.laws.held_calls_are_sent_at_most_twice.Goals as goal

pub returns : goal.returns
returns c = λ who. sent_at_most_twice ship_occurs (ship_rules who) who.own (λ is_such. entry_handles is_such who)
