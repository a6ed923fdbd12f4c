use Rattle.std.proofs.Common.{arith, ◌≤◌, subst, sym, ◌∙◌, ap}
use Rattle.evidence_board.specs.Seats.{Held}
use Rattle.evidence_board.proofs.StepKinds.{halves_keep}
use Rattle.evidence_board.proofs.words.Words.split.Goals as goal

pub split_seat-seat-requires : goal.split_seat-seat-requires
split_seat-seat-requires g c =
    let enough = subst (λ (h : Held). 2 ≤ h.view.share) (sym c.token.view_is) c.requires.share in (
      ap (λ (h : Held). h.table) c.token.view_is ∙ (c.requires.table ∙ sym c.self.view_is),
      omega (arith, c.self.invariant.0),
      halves_keep g.A.Allowed.facts _ _ enough,
    )
