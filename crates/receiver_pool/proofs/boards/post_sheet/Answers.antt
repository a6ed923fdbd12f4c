use Rattle.std.proofs.Common.{true, refl}
use Rattle.std.proofs.lemmas.Bool.Decides.{Decides-eqb}
use Rattle.std.proofs.lemmas.Slice.Eq.{slice_eq-Decides}
use Rattle.evidence_board.specs.Views.{given_sheet}
use Rattle.receiver_pool.proofs.Posted.{left_true, nothing_posted}
use Rattle.receiver_pool.proofs.boards.post_sheet.Goals as goal

pub returns-then-eq-clause-ends : goal.returns-then-eq-clause-ends
returns-then-eq-clause-ends g c =
    λ F G f h.
    nothing_posted c.args.sheet.now c.empty.result (given_sheet c.args.seat.now.view) F G c.sheet_is_lawful.ensures c.empty.ensures.blank
    ((slice_eq-Decides Decides-eqb _ _ true (left_true _ _ c.if-eq.ensures)).0 refl)
    f
    h
