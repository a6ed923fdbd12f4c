use Rattle.phasing.specs.inside.Places.{element_at}
use Rattle.phasing.proofs.PackedBits.{planes_between}
use Rattle.phasing.proofs.packed.RefReceptionElements.planes_from.Goals as goal

pub returns : goal.returns
returns c =
    planes_between _ _ c.args.begin c.words-here.result c.words-next.result (element_at c.args.self.now) c.shifted.ensures c.shifted-2.ensures c.words-here.ensures
    c.words-next.ensures
