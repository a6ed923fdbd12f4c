use Rattle.dsc_cmd.proofs.laws.facts_determine_outputs.Goals as goal

pub returns-clause-join : goal.returns-clause-join
returns-clause-join c = λ m n first second said other are_first are_second same a b s t x y.
    c.facts_determine_texts.ensures.join_ends first second said other are_first are_second same a b s t x.ends y.ends

pub returns-clause-evidence : goal.returns-clause-evidence
returns-clause-evidence c = λ m n first second said other are_first are_second same a b s t x y.
    c.facts_determine_texts.ensures.evidence_ends first second said other are_first are_second same a b s t x.ends y.ends
