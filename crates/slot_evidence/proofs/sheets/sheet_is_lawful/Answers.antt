use Rattle.std.proofs.Common.{subst}
use Rattle.slot_evidence.specs.Sheet.{IsSheet}
use Rattle.slot_evidence.proofs.Kept.{IsSheet-kept}
use Rattle.slot_evidence.proofs.sheets.sheet_is_lawful.Goals as goal

pub returns : goal.returns
returns c = subst IsSheet c.sheet.view_is (IsSheet-kept c.sheet.inside.leasts c.sheet.inside.pasts c.sheet.invariant)
