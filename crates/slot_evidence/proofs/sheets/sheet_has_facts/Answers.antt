use Rattle.std.proofs.Common.{List, subst}
use Rattle.slot_evidence.specs.declared.places.Seen.{Seen}
use Rattle.slot_evidence.specs.inside.Kept.{seen_of}
use Rattle.slot_evidence.specs.Sheet.{IsEnds, facts_in}
use Rattle.slot_evidence.proofs.Ends.{own_ends}
use Rattle.slot_evidence.proofs.Kept.{IsSheet-kept}
use Rattle.slot_evidence.proofs.sheets.sheet_has_facts.Goals as goal

pub returns : goal.returns
returns c =
    let leasts = c.sheet.inside.leasts in
    let pasts = c.sheet.inside.pasts in
    subst (λ (s : List Seen). IsEnds (facts_in s) s) c.sheet.view_is (own_ends (seen_of leasts pasts) (IsSheet-kept leasts pasts c.sheet.invariant))
