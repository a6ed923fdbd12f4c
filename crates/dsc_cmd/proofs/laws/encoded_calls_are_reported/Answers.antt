use Rattle.dsc_cmd.proofs.EncodedCalls.{heard_whole, tells_call}
use Rattle.dsc_cmd.proofs.laws.encoded_calls_are_reported.Goals as goal

pub returns-clause-line : goal.returns-clause-line
returns-clause-line c = heard_whole

pub returns-clause-reported : goal.returns-clause-reported
returns-clause-reported c =
    tells_call (record { alike = c.alike_facts_have_one_answer.ensures; alone = c.transmissions_are_answered.ensures.alone; expanded = c.transmissions_are_answered.ensures.expanded })
