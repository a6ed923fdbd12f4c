use Rattle.evidence_board.proofs.Listed.{all_allowed}
use Rattle.evidence_board.proofs.allowed.all_facts_may_be_posted.Goals as goal

pub returns : goal.returns
returns c = all_allowed
