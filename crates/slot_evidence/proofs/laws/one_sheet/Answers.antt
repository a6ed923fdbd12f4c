use Rattle.slot_evidence.proofs.Ends.{one_sheet, same_sheet}
use Rattle.slot_evidence.proofs.laws.one_sheet.Goals as goal

pub returns-clause-one : goal.returns-clause-one
returns-clause-one c = one_sheet

pub returns-clause-same : goal.returns-clause-same
returns-clause-same c = same_sheet
