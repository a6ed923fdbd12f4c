use Rattle.encode_calls.proofs.Determined.{encoding_determined}
use Rattle.encode_calls.proofs.laws.lines_determine_output.Goals as goal

pub returns : goal.returns
returns c = encoding_determined c.one_call_line.ensures
