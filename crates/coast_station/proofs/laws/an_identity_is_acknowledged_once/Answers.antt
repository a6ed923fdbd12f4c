use Rattle.coast_station.proofs.Acknowledgements.{acknowledged_once}
use Rattle.coast_station.proofs.laws.an_identity_is_acknowledged_once.Goals as goal

pub returns : goal.returns
returns c = acknowledged_once
