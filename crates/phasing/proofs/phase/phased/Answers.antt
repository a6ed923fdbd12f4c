use Rattle.phasing.proofs.phase.phased.Goals as goal

pub returns : goal.returns
returns c = λ base e first second third fourth.
    c.enough.ensures base e (c.dx_right.ensures base e first second third) (c.rx_right.ensures base e first second third fourth)
