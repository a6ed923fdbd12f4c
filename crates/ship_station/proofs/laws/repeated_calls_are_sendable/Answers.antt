use Rattle.traffic_rules.proofs.PublicLaws.{repeated_as_traffic}
use Rattle.ship_station.specs.ShipRules.{held}
use Rattle.ship_station.proofs.Sendings.{ship_held_sendable}
use Rattle.ship_station.proofs.laws.repeated_calls_are_sendable.Goals as goal

pub returns : goal.returns
returns c = λ who h legal. repeated_as_traffic who.own (held h) (ship_held_sendable who h legal)
