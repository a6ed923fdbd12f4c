use Rattle.coast_station.proofs.Acknowledgements.{goes_back}
use Rattle.coast_station.proofs.laws.acknowledgements_go_back_to_accepted_alerts.Goals as goal

pub returns : goal.returns
returns c = goes_back
