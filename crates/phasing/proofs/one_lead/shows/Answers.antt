use Rattle.std.proofs.Common.{rules}
use Rattle.phasing.specs.Slot.{shows}
use Rattle.phasing.proofs.one_lead.shows.Goals as goal

pub returns : goal.returns
unfolding shows
returns c = search rules
