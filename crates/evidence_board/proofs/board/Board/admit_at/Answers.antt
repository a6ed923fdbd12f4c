use Rattle.std.proofs.Common.{subst, sym, ◌∙◌}
use Rattle.slot_evidence.specs.Sheet.{IsEnds}
use Rattle.evidence_board.specs.Views.{given_sheet}
use Rattle.evidence_board.specs.Seats.{Held}
use Rattle.evidence_board.proofs.Unions.{admit_ends}
use Rattle.evidence_board.proofs.board.Board.admit_at.Goals as goal

pub returns-clause-union : goal.returns-clause-union
returns-clause-union g c =
    λ F G f h.
    admit_ends c.args.sheet.now c.seat.inside.token.view c.post.new.token.view c.sheet_is_lawful.ensures c.seat.invariant.1 (c.post.ensures.places.size ∙ c.seat.invariant.1.size) c.post.ensures.places.below F G
    (subst (λ (s : Held). IsEnds F (given_sheet s.view)) (sym c.seat.view_is) f)
    h
