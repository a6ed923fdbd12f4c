use Rattle.line_engine.proofs.PublicLaws.{lacks_no_output}
use Rattle.join_groups.specs.Meanings.{groups_meaning}
use Rattle.join_groups.specs.Output.{TellsAnswer, TellsEvidence}
use Rattle.join_groups.proofs.NotLacking.{join_never_stuck}
use Rattle.join_groups.proofs.NotLackingEnds.{evidence_never_stuck}
use Rattle.join_groups.proofs.laws.no_output_is_lacking.Goals as goal

pub returns-clause-join : goal.returns-clause-join
returns-clause-join c = lacks_no_output (groups_meaning TellsAnswer) (join_never_stuck c.no_answer_is_lacking.ensures)

pub returns-clause-evidence : goal.returns-clause-evidence
returns-clause-evidence c = lacks_no_output (groups_meaning TellsEvidence) evidence_never_stuck
