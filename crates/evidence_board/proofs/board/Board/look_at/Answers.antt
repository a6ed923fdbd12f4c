use Rattle.std.proofs.Common.{List, subst, sym, ◌∙◌, ap}
use Rattle.slot_evidence.specs.declared.places.Seen.{Seen}
use Rattle.slot_evidence.specs.Allowed.{OnlyAllowed}
use Rattle.evidence_board.specs.Seats.{Held}
use Rattle.evidence_board.specs.Views.{given_sheet}
use Rattle.slot_evidence.specs.Sheet.{IsEnds}
use Rattle.evidence_board.proofs.Loads.{sheet_allowed}
use Rattle.evidence_board.proofs.Unions.{looked_given, looked_exactly}
use Rattle.evidence_board.proofs.board.Board.look_at.Goals as goal

pub returns-clause-allowed : goal.returns-clause-allowed
returns-clause-allowed g c =
    let told = c.look.ensures in
    subst (λ (s : List Seen). OnlyAllowed g.A.Allowed.facts s) (sym told.sheet)
    (sheet_allowed g.A.Allowed.facts c.look.new.token.view (told.places.size ∙ c.seat.invariant.1.size) (λ p below. ((told.places.below p below).rest, (told.places.below p below).looked.allowed)))

pub returns-clause-given : goal.returns-clause-given
returns-clause-given g c =
    looked_given g.A.Allowed.facts c.seat.inside.token.view c.look.new.token.view c.seat.invariant.1 c.look.ensures.places
    ∙ ap (λ (h : Held). given_sheet h.view) c.seat.view_is

pub returns-clause-exact : goal.returns-clause-exact
returns-clause-exact g c =
    λ F among ends.
    subst (λ (s : List Seen). IsEnds F s) (sym c.look.ensures.sheet)
    (looked_exactly g.A.Allowed.facts c.seat.inside.token.view c.look.new.token.view F c.seat.invariant.1 c.look.ensures.places among
    (subst (λ (s : Held). IsEnds F (given_sheet s.view)) (sym c.seat.view_is) ends))
