use Rattle.std.proofs.Common.{◌≡◌, sym, ap, subst, refl, None}
use Rattle.phasing.specs.Origin.{lead_of}
use Rattle.slot_evidence.specs.Facts.{Facts, facts_of, facts_at}
use Rattle.slot_evidence.specs.Sheet.{IsEnds}
use Rattle.slot_evidence.proofs.reading.shown_by.Goals as goal

pub returns-in-None : goal.returns-in-None
unfolding facts_of
returns-in-None g c =
    let none : lead_of (g.E.Elements.list c.args.heard) ≡ None = c.in-None.ensures.none.0 refl in
    subst (λ (F : Facts). IsEnds F c.empty.result) (sym (ap (facts_at (g.E.Elements.list c.args.heard)) none)) c.empty.ensures.ends
