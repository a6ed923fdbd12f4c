use Rattle.phasing.proofs.WholeStarts.{ends_start}
use Rattle.phasing.proofs.intact.ends_start.Goals as goal

pub returns-then-agree : goal.returns-then-agree
returns-then-agree c = λ base e same planes.
    ends_start c.loop-number.number c.loop-number-test.true e base (c.agree.ensures base e c.if-agree.true planes)
