use Rattle.encode_calls.proofs.Encoded.{none_encoded}
use Rattle.encode_calls.proofs.command.Encode.new.Goals as goal

pub returns : goal.returns
returns g c = none_encoded g.D.Dots.long
