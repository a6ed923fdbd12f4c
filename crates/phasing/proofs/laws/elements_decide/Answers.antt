use Rattle.phasing.proofs.Near.{shows-near, is_phased-near}
use Rattle.phasing.proofs.laws.elements_decide.Goals as goal

pub returns-clause-slot : goal.returns-clause-slot
returns-clause-slot c = shows-near

pub returns-clause-lead : goal.returns-clause-lead
returns-clause-lead c = is_phased-near
