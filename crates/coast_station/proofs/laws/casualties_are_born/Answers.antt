use Rattle.std.proofs.Common.{◌∙◌}
use Rattle.coast_station.proofs.Identities.{born_open, open_born}
use Rattle.coast_station.proofs.laws.casualties_are_born.Goals as goal

pub returns : goal.returns
returns c = λ own mmsi h. born_open own mmsi h ∙ open_born own mmsi h
