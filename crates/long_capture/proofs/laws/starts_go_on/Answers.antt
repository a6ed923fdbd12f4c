use Rattle.long_capture.proofs.Lists.{quiet_starts, next_starts}
use Rattle.long_capture.proofs.laws.starts_go_on.Goals as goal

pub returns-clause-quiet : goal.returns-clause-quiet
returns-clause-quiet c = quiet_starts

pub returns-clause-next : goal.returns-clause-next
returns-clause-next c = next_starts
