use Rattle.coast_station.proofs.Few.{few_open}
use Rattle.coast_station.proofs.laws.sixteen_casualties.Goals as goal

pub returns-clause-casualties : goal.returns-clause-casualties
returns-clause-casualties c = few_open
