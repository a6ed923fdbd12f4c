use Rattle.std.proofs.Common.{List, subst, sym}
use Rattle.slot_evidence.specs.declared.places.Seen.{Seen}
use Rattle.slot_evidence.specs.Sheet.{IsEnds}
use Rattle.slot_evidence.proofs.Kept.{added}
use Rattle.slot_evidence.proofs.Edges.{kept_add, ends_add}
use Rattle.slot_evidence.proofs.sheets.Sheet.add.Goals as goal

pub invariant_of-self : goal.invariant_of-self
invariant_of-self c = kept_add _ _ c.args.p c.args.symbol _ _ c.self.invariant c.requires.place c.requires.symbol c.min-least.ensures c.max-past.ensures

pub returns-clause-union : goal.returns-clause-union
returns-clause-union c = λ F f.
    ends_add F _ _ c.args.p c.args.symbol _ _ c.self.invariant c.requires.place c.requires.symbol c.min-least.ensures c.max-past.ensures
    (subst (λ (s : List Seen). IsEnds F s) (sym c.self.view_is) f)

pub returns-clause-place : goal.returns-clause-place
returns-clause-place c = added _ _ c.args.p c.args.symbol _ _ _ c.self.invariant c.requires.place c.min-least.ensures c.max-past.ensures c.self.view_is
