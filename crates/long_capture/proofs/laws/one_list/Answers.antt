use Rattle.long_capture.proofs.Lists.{one_list}
use Rattle.long_capture.proofs.laws.one_list.Goals as goal

pub returns : goal.returns
returns c = one_list c.one_sheet.ensures.one
