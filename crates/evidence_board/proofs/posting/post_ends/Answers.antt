use Rattle.std.proofs.Common.{◌+◌}
use Rattle.evidence_board.specs.Steps.{posted_past}
use Rattle.evidence_board.proofs.Changes.{changed_twice}
use Rattle.evidence_board.proofs.posting.post_ends.Goals as goal

pub returns-clause-place : goal.returns-clause-place
returns-clause-place g c = changed_twice _ _ _ c.args.p _ (posted_past (c.args.greatest + 1)) c.lower.ensures.place c.raise.ensures.place
