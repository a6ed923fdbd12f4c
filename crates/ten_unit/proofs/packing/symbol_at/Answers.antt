use Rattle.std.proofs.Common.{◌+◌}
use Rattle.ten_unit.proofs.Bits.{number_at, long_stretch}
use Rattle.ten_unit.proofs.packing.symbol_at.Goals as goal

pub returns : goal.returns
returns c = λ base e is.
    let planes = c.args.planes.now in
    c.symbol_of.ensures _ (long_stretch e 10 (base + c.args.first)) (number_at planes.y planes.b base c.args.first e is c.requires)
