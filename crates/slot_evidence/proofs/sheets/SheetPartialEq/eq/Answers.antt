use Rattle.slot_evidence.proofs.Kept.{same_told}
use Rattle.slot_evidence.proofs.sheets.SheetPartialEq.eq.Goals as goal

pub returns : goal.returns
returns c =
    same_told _ _ _ _ _ _ _ _ c.t1-1.invariant c.t2-1.invariant c.t1-1.view_is c.t2-1.view_is c.eq.ensures c.and_eq.ensures
