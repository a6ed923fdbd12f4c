use Rattle.slot_evidence.proofs.Alike.{kept_alike, itself_alike, unions_alike, sheet_alike}
use Rattle.slot_evidence.proofs.laws.ends_are_kept.Goals as goal

pub returns-clause-kept : goal.returns-clause-kept
returns-clause-kept c = kept_alike

pub returns-clause-itself : goal.returns-clause-itself
returns-clause-itself c = itself_alike

pub returns-clause-unions : goal.returns-clause-unions
returns-clause-unions c = unions_alike

pub returns-clause-sheet : goal.returns-clause-sheet
returns-clause-sheet c = sheet_alike
