use Rattle.phasing.proofs.WholeCalls.{whole_found, sent_shows, length-sent}
use Rattle.phasing.proofs.laws.whole_calls_are_found.Goals as goal

pub returns-clause-lead : goal.returns-clause-lead
returns-clause-lead c = whole_found

pub returns-clause-slots : goal.returns-clause-slots
returns-clause-slots c = sent_shows

pub returns-clause-length : goal.returns-clause-length
returns-clause-length c = length-sent
