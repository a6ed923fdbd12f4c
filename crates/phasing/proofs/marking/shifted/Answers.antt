use Rattle.phasing.proofs.BitTests.{shifted_marks}
use Rattle.phasing.proofs.marking.shifted.Goals as goal

pub returns : goal.returns
returns c = λ base f low high. shifted_marks c.args.low c.args.high c.args.shift base f c.requires low high
