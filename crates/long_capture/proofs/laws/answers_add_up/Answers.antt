use Rattle.long_capture.proofs.Lists.{tells_joined}
use Rattle.long_capture.proofs.laws.answers_add_up.Goals as goal

pub returns : goal.returns
returns c = tells_joined
