use Rattle.std.proofs.Common.{◌∙◌}
use Rattle.phasing.proofs.Pushes.{told_y, told_b, told_kept, told_lost}
use Rattle.phasing.proofs.packed.Reception.element.Goals as goal

pub returns-then-here-at-eq1 : goal.returns-then-here-at-eq1
returns-then-here-at-eq1 c = told_y _ c.index-here.result.now.b _ c.if-here-at-eq1.true ∙ told_kept _ _ _ c.args.number _ _ c.self.invariant c.self.view_is c.index-here.ensures c.requires

pub returns-then-here-at-eq1-2 : goal.returns-then-here-at-eq1-2
returns-then-here-at-eq1-2 c = told_b _ _ _ c.if-here-at-eq1.false c.if-here-at-eq1-2.true ∙ told_kept _ _ _ c.args.number _ _ c.self.invariant c.self.view_is c.index-here.ensures c.requires

pub returns-else-here-at-eq1-2 : goal.returns-else-here-at-eq1-2
returns-else-here-at-eq1-2 c = told_lost _ _ _ c.if-here-at-eq1.false c.if-here-at-eq1-2.false ∙ told_kept _ _ _ c.args.number _ _ c.self.invariant c.self.view_is c.index-here.ensures c.requires
