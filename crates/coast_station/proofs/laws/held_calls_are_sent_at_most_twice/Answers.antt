use Rattle.traffic_rules.proofs.PublicLaws.{sent_at_most_twice}
use Rattle.coast_station.specs.Events.{coast_occurs}
use Rattle.coast_station.specs.CoastRules.{coast_rules}
use Rattle.coast_station.proofs.Sendings.{entry_handles}
use Rattle.coast_station.proofs.laws.held_calls_are_sent_at_most_twice.Goals as goal

pub returns : goal.returns
returns c = λ who. sent_at_most_twice coast_occurs (coast_rules who) who.own (λ is_such. entry_handles is_such who)
