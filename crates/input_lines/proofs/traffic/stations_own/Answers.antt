use Rattle.input_lines.proofs.Choices.{station_column}
use Rattle.input_lines.proofs.traffic.stations_own.Goals as goal

pub returns : goal.returns
returns c = λ n some h. station_column c.args.point c.args.line.now n c.requires some h
