use Rattle.traffic_rules.proofs.PublicLaws.{repeated_as_traffic}
use Rattle.coast_station.specs.CoastRules.{held}
use Rattle.coast_station.proofs.Sendings.{coast_held_sendable}
use Rattle.coast_station.proofs.laws.repeated_calls_are_sendable.Goals as goal

pub returns : goal.returns
returns c = λ who h legal. repeated_as_traffic who.own (held h) (coast_held_sendable who h legal)
