use Rattle.phasing.proofs.Leads.{is_phased-past}
use Rattle.phasing.proofs.laws.none_past_the_end.Goals as goal

pub returns : goal.returns
returns c = is_phased-past
