use Rattle.long_capture.proofs.Decided.{phased_stays, facts_stay, starts_stay}
use Rattle.long_capture.proofs.Near.{Laws}
use Rattle.long_capture.proofs.laws.decided_starts_stay.Goals as goal

laws_of : goal.After-none_past_the_end → Laws
laws_of c = record { slot = c.elements_decide.ensures.slot; lead = c.elements_decide.ensures.lead; past = c.none_past_the_end.ensures }

pub returns-clause-phased : goal.returns-clause-phased
returns-clause-phased c = phased_stays (laws_of c)

pub returns-clause-facts : goal.returns-clause-facts
returns-clause-facts c = facts_stay (laws_of c)

pub returns-clause-starts : goal.returns-clause-starts
returns-clause-starts c = starts_stay (laws_of c)
