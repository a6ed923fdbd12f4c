use Rattle.std.proofs.Common.{List, subst, sym}
use Rattle.slot_evidence.specs.declared.places.Seen.{Seen}
use Rattle.slot_evidence.specs.Sheet.{IsEnds}
use Rattle.slot_evidence.proofs.Edges.{kept_met, ends_met}
use Rattle.slot_evidence.proofs.sheets.Sheet.meet.Goals as goal

pub invariant_of-self : goal.invariant_of-self
invariant_of-self c =
    let least = c.least-self-inside.ensures in
    let greatest = c.greatest-self-inside.ensures in
    kept_met _ _ _ _ _ _ c.self.invariant c.other.invariant least.places greatest.places least.each greatest.each

pub returns : goal.returns
returns c = λ F G f g.
    let least = c.least-self-inside.ensures in
    let greatest = c.greatest-self-inside.ensures in
    let kept = kept_met _ _ _ _ _ _ c.self.invariant c.other.invariant least.places greatest.places least.each greatest.each in
    ends_met F G _ _ _ _ _ _ c.self.invariant c.other.invariant kept least.each greatest.each
    (subst (λ (s : List Seen). IsEnds F s) (sym c.self.view_is) f)
    (subst (λ (s : List Seen). IsEnds G s) (sym c.other.view_is) g)
