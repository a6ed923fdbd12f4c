use Rattle.input_lines.proofs.Choices.{one_stream}
use Rattle.input_lines.proofs.laws.one_stream_line.Goals as goal

pub returns : goal.returns
returns c = one_stream
