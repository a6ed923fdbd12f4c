use Rattle.std.proofs.Common.{arith, subst, sym}
use Rattle.evidence_board.specs.declared.seats.TheConstants.{WHOLE}
use Rattle.evidence_board.specs.Seats.{IsSeated}
use Rattle.evidence_board.proofs.Rests.{fresh_seated}
use Rattle.evidence_board.proofs.seats.Seat.first.Goals as goal

pub with_share-requires-clause-seated : goal.with_share-requires-clause-seated
with_share-requires-clause-seated g c lives last = subst IsSeated (sym c.requires) (fresh_seated WHOLE (omega arith))
