use Rattle.join_groups.specs.Output.{TellsAnswer, TellsEvidence}
use Rattle.join_groups.proofs.Determined.{answers_once, evidence_once}
use Rattle.join_groups.proofs.FactsLaws.{alike_over, alike_ends}
use Rattle.join_groups.proofs.TextLaws.{Laws, answers_go_over, evidence_goes_over}
use Rattle.join_groups.proofs.laws.facts_determine_texts.Goals as goal

laws_of : goal.After-evidence_is_read → Laws
laws_of c =
    let sets = c.ends_are_kept.ensures in
    record {
      answers = c.alike_facts_have_one_answer.ensures;
      kept = sets.kept;
      itself = sets.itself;
      unions = sets.unions;
      sheet = sets.sheet;
      pairs = c.evidence_is_read.ensures.facts;
    }

pub returns-clause-join : goal.returns-clause-join
returns-clause-join c = alike_over TellsAnswer (answers_go_over (laws_of c))

pub returns-clause-evidence : goal.returns-clause-evidence
returns-clause-evidence c = alike_over TellsEvidence (evidence_goes_over (laws_of c))

pub returns-clause-join_ends : goal.returns-clause-join_ends
returns-clause-join_ends c = alike_ends c.one_line.ensures TellsAnswer (answers_go_over (laws_of c)) (answers_once c.one_answer.ensures)

pub returns-clause-evidence_ends : goal.returns-clause-evidence_ends
returns-clause-evidence_ends c = alike_ends c.one_line.ensures TellsEvidence (evidence_goes_over (laws_of c)) (evidence_once c.one_sheet.ensures.one)
