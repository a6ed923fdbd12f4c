use Rattle.ship_station.proofs.Endings.{none_after_end}
use Rattle.ship_station.proofs.laws.no_attempt_after_an_end.Goals as goal

pub returns : goal.returns
returns c = none_after_end
