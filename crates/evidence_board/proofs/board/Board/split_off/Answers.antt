use Rattle.std.proofs.Common.{arith, ◌≤◌, subst, sym, ◌∙◌, ap}
use Rattle.evidence_board.specs.Seats.{Held, IsSeated}
use Rattle.evidence_board.specs.Views.{Place, given_sheet, seen_sheet}
use Rattle.evidence_board.specs.Steps.{new_half}
use Rattle.evidence_board.proofs.Rests.{new_place, new_seated}
use Rattle.evidence_board.proofs.Unions.{same_given, same_seen}
use Rattle.evidence_board.proofs.board.Board.split_off.Goals as goal

pub with_share-requires-clause-seated : goal.with_share-requires-clause-seated
with_share-requires-clause-seated g c lives last =
    let enough : 2 ≤ c.seat.inside.token.view.share = omega (arith, c.requires.share, ap (λ (h : Held). h.view.share) c.seat.view_is) in
    subst IsSeated (sym c.split-token.ensures.other) (new_seated c.seat.inside.token.view c.seat.invariant.1 enough)

pub returns-clause-given : goal.returns-clause-given
returns-clause-given g c =
    let v = c.seat.inside.token.view in
    let enough : 2 ≤ v.share = omega (arith, c.requires.share, ap (λ (h : Held). h.view.share) c.seat.view_is) in
    let was = ap (λ (h : Held). given_sheet h.view) c.seat.view_is in
    let size = c.seat.invariant.1.size in (
      ap given_sheet c.split-token.ensures.kept ∙ was,
      ap given_sheet (c.with_share.ensures.view ∙ c.split-token.ensures.other)
          ∙ same_given v (new_half v) size (new_seated v c.seat.invariant.1 enough).size (λ p below. ap (λ (x : Place). x.given) (new_place v p size below))
          ∙ was,
    )

pub returns-clause-seen : goal.returns-clause-seen
returns-clause-seen g c =
    let v = c.seat.inside.token.view in
    let enough : 2 ≤ v.share = omega (arith, c.requires.share, ap (λ (h : Held). h.view.share) c.seat.view_is) in
    let size = c.seat.invariant.1.size in
    ap seen_sheet (c.with_share.ensures.view ∙ c.split-token.ensures.other)
    ∙ same_seen v (new_half v) size (new_seated v c.seat.invariant.1 enough).size (λ p below. ap (λ (x : Place). x.seen) (new_place v p size below))
    ∙ ap (λ (h : Held). seen_sheet h.view) c.seat.view_is
