use Rattle.join_groups.specs.Output.{TellsAnswer, TellsEvidence}
use Rattle.join_groups.proofs.Determined.{answers_once, evidence_once, groups_determined}
use Rattle.join_groups.proofs.laws.lines_determine_output.Goals as goal

pub returns-clause-join : goal.returns-clause-join
returns-clause-join c = groups_determined c.one_line.ensures TellsAnswer (answers_once c.one_answer.ensures)

pub returns-clause-evidence : goal.returns-clause-evidence
returns-clause-evidence c = groups_determined c.one_line.ensures TellsEvidence (evidence_once c.one_sheet.ensures.one)
