use Rattle.ship_station.proofs.Endings.{ends_by}
use Rattle.ship_station.proofs.laws.alerts_end_by_hand_or_acknowledgement.Goals as goal

pub returns : goal.returns
returns c = ends_by
