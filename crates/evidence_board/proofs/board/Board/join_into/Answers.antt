use Rattle.std.proofs.Common.{arith, subst, sym, ◌∙◌, ap}
use Rattle.slot_evidence.specs.Facts.{union}
use Rattle.slot_evidence.specs.Sheet.{IsEnds}
use Rattle.evidence_board.specs.Views.{View, place_at, given_sheet}
use Rattle.evidence_board.specs.Steps.{both, joined}
use Rattle.evidence_board.specs.Seats.{Held, IsSeated}
use Rattle.evidence_board.proofs.Rests.{both_place, both_seated}
use Rattle.evidence_board.proofs.Unions.{join_ends}
use Rattle.evidence_board.proofs.board.Board.join_into.Goals as goal

pub invariant_of-seat : goal.invariant_of-seat
invariant_of-seat g c =
    let a = c.seat.inside.token.view in
    let b = c.other.inside.token.view in
    let view = c.join.ensures.view in (
      omega (arith, c.seat.invariant.0, c.other.invariant.0, ap (λ (v : View). v.share) view),
      subst IsSeated (sym view) (both_seated a b c.seat.invariant.1 c.other.invariant.1),
    )

pub returns-clause-places : goal.returns-clause-places
returns-clause-places g c =
    λ p below.
    let a = c.seat.inside.token.view in
    let b = c.other.inside.token.view in
    let view = c.join.ensures.view in
    ap (λ (v : View). place_at v p) view
    ∙ both_place a b p c.seat.invariant.1.size c.other.invariant.1.size below
    ∙ ap (λ (h : Held). joined (place_at h.view p) (place_at b p)) c.seat.view_is
    ∙ ap (λ (h : Held). joined (place_at c.args.seat.now.view p) (place_at h.view p)) c.other.view_is

pub returns-clause-union : goal.returns-clause-union
returns-clause-union g c =
    λ F G f h.
    let a = c.seat.inside.token.view in
    let b = c.other.inside.token.view in
    let view = c.join.ensures.view in
    subst (λ (v : View). IsEnds (union F G) (given_sheet v)) (sym view)
    (join_ends a b (both a b) c.seat.invariant.1 c.other.invariant.1 (both_seated a b c.seat.invariant.1 c.other.invariant.1).size (λ p below. both_place a b p c.seat.invariant.1.size c.other.invariant.1.size below) F G
    (subst (λ (s : Held). IsEnds F (given_sheet s.view)) (sym c.seat.view_is) f)
    (subst (λ (s : Held). IsEnds G (given_sheet s.view)) (sym c.other.view_is) h))
