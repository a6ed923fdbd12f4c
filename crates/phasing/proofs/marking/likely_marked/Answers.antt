use Rattle.std.proofs.Common.{◌+◌, arith}
use Rattle.phasing.specs.inside.Likely.{filled}
use Rattle.phasing.proofs.marking.likely_marked.Goals as goal

pub returns : goal.returns
returns c = λ base e from here next.
    c.phasing_marked.ensures base (filled e) (c.filled_planes.ensures base e from here) (c.filled_planes-2.ensures (base + 64) e (omega arith) next)
