use Rattle.line_engine.proofs.PublicLaws.{has_outputs}
use Rattle.encode_calls.specs.Encoding.{encode_meaning}
use Rattle.encode_calls.proofs.Complete.{encode_complete}
use Rattle.encode_calls.proofs.laws.inputs_have_outputs.Goals as goal

pub returns : goal.returns
returns c = λ long. has_outputs (encode_meaning long) (encode_complete long)
