use Rattle.phasing.proofs.PackedBits.{kept_count}
use Rattle.phasing.proofs.packed.RefReceptionElements.count.Goals as goal

pub returns : goal.returns
returns c = kept_count _ _ _ c.self.view_is
