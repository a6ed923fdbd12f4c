use Rattle.join_groups.specs.Output.{TellsAnswer, TellsEvidence}
use Rattle.join_groups.proofs.TextLaws.{Laws, answers_go_over, evidence_goes_over, order_over}
use Rattle.join_groups.proofs.laws.texts_forget_order.Goals as goal

laws_of : goal.After-evidence_is_read → Laws
laws_of c =
    let sets = c.ends_are_kept.ensures in
    record {
      answers = c.alike_facts_have_one_answer.ensures;
      kept = sets.kept;
      itself = sets.itself;
      unions = sets.unions;
      sheet = sets.sheet;
      pairs = c.evidence_is_read.ensures.facts;
    }

pub returns-clause-join : goal.returns-clause-join
returns-clause-join c = order_over (laws_of c) TellsAnswer (answers_go_over (laws_of c))

pub returns-clause-evidence : goal.returns-clause-evidence
returns-clause-evidence c = order_over (laws_of c) TellsEvidence (evidence_goes_over (laws_of c))
