use Rattle.std.proofs.Common.{subst, sym, ◌∙◌, ap}
use Rattle.slot_evidence.specs.declared.places.Seen.{Seen}
use Rattle.slot_evidence.specs.Sheet.{seen_at}
use Rattle.evidence_board.specs.Views.{reach_of, kept_of, place_at, given_sheet}
use Rattle.evidence_board.specs.Rule.{IsWithin}
use Rattle.evidence_board.specs.Seats.{Held, IsResting}
use Rattle.evidence_board.proofs.Rests.{further_still, is_given_sheet}
use Rattle.evidence_board.proofs.Unions.{kept_within}
use Rattle.evidence_board.proofs.board.Board.close.Goals as goal

pub kept_sheet-sheet-requires-clause-rest : goal.kept_sheet-sheet-requires-clause-rest
kept_sheet-sheet-requires-clause-rest g c = λ p below. subst IsResting (sym (c.close-closed.ensures.words p below)) (c.seat.invariant.1.rest.given p below)

pub returns-clause-sheet : goal.returns-clause-sheet
returns-clause-sheet g c =
    is_given_sheet c.kept_sheet-sheet.result c.seat.inside.token.view c.kept_sheet-sheet.ensures.size c.seat.invariant.1.size
    (λ p below. c.kept_sheet-sheet.ensures.each p below ∙ ap kept_of (c.close-closed.ensures.words p below))
    ∙ ap (λ (h : Held). given_sheet h.view) c.seat.view_is

pub returns-clause-seen : goal.returns-clause-seen
returns-clause-seen g c =
    λ p below.
    let view = c.seat.inside.token.view in
    let given = (place_at view p).given in
    subst (λ (h : Held). IsWithin (place_at h.view p).seen (reach_of (seen_at c.kept_sheet-sheet.result p))) c.seat.view_is
    (subst (λ (s : Seen). IsWithin (place_at view p).seen (reach_of s)) (sym (c.kept_sheet-sheet.ensures.each p below ∙ ap kept_of (c.close-closed.ensures.words p below)))
    (further_still (place_at view p).seen given (reach_of (kept_of given)) (c.close-closed.ensures.seen p below) (kept_within given (c.seat.invariant.1.rest.given p below))))
