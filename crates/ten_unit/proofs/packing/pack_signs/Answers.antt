use Rattle.ten_unit.proofs.SignMarks.{two_full, three_full, not_full}
use Rattle.ten_unit.proofs.packing.pack_signs.Goals as goal

pub returns-then-y-b-clause-signs : goal.returns-then-y-b-clause-signs
returns-then-y-b-clause-signs c = two_full _ _ _ c.told-block c.equal_to-y.ensures c.equal_to-b.ensures c.if-y-b.true

pub returns-then-y-b-2-clause-signs : goal.returns-then-y-b-2-clause-signs
returns-then-y-b-2-clause-signs c = three_full _ _ _ _ c.told-block c.equal_to-y.ensures c.equal_to-b.ensures c.equal_to.ensures c.if-y-b-2.true

pub returns-clause-none : goal.returns-clause-none
returns-clause-none c = λ _.
    not_full _ _ _ _ c.told-block c.equal_to-y.type_inv c.equal_to-b.type_inv c.equal_to.type_inv c.equal_to-y.ensures c.equal_to-b.ensures c.equal_to.ensures c.if-y-b-2.false
