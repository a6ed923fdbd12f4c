use Rattle.std.proofs.Common.{refl}
use Rattle.evidence_board.proofs.Loads.{kept_both}
use Rattle.evidence_board.proofs.looking.keep.Goals as goal

pub returns : goal.returns
returns c =
    kept_both _ _ _ c.args.p c.args.least c.args.past _ c.requires.place c.requires.size c.requires.unseen c.requires.order.0 c.requires.order.1 refl c.add.ensures.place c.add-2.ensures.place
