use Rattle.ship_station.proofs.Attempts.{apart}
use Rattle.ship_station.proofs.laws.attempts_are_apart.Goals as goal

pub returns : goal.returns
returns c = apart
