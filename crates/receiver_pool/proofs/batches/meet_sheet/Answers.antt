use Rattle.std.proofs.Common.{[], List, refl, subst, sym}
use Rattle.std.proofs.lemmas.List.{get_or_default}
use Rattle.slot_evidence.specs.declared.places.Seen.{Seen}
use Rattle.slot_evidence.specs.Sheet.{IsEnds}
use Rattle.receiver_pool.proofs.Parts.{met_at}
use Rattle.receiver_pool.proofs.batches.meet_sheet.Goals as goal

pub returns : goal.returns
returns c =
    λ F G n are shown.
    let at = get_or_default c.args.sheets.now c.args.number c.index-sheets-number.result [] c.requires in
    met_at c.args.number F G c.args.sheets.now _ c.args.shown.now c.meet.new.self n c.requires refl
    (λ X Y x y. c.meet.ensures X Y (subst (λ (s : List Seen). IsEnds X s) (sym at) x) y)
    shown
    are
