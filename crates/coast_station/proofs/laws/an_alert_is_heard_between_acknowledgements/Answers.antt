use Rattle.coast_station.proofs.Acknowledgements.{heard_between}
use Rattle.coast_station.proofs.laws.an_alert_is_heard_between_acknowledgements.Goals as goal

pub returns : goal.returns
returns c = heard_between
