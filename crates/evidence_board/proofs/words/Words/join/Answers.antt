use Rattle.std.proofs.Common.{arith, ◌≤◌, subst, sym, ◌∙◌, ap}
use Rattle.evidence_board.specs.Seats.{Held}
use Rattle.evidence_board.proofs.StepKinds.{joins_keep, weighs_keeps}
use Rattle.evidence_board.proofs.words.Words.join.Goals as goal

pub join_seat-requires : goal.join_seat-requires
join_seat-requires g c =
    let alive = subst (λ (h : Held). 1 ≤ h.view.share) (sym c.token.view_is) c.requires.alive in (
      ap (λ (h : Held). h.table) c.token.view_is ∙ (c.requires.table.0 ∙ sym c.self.view_is),
      ap (λ (h : Held). h.table) c.other.view_is ∙ (c.requires.table.1 ∙ sym c.self.view_is),
      c.other.invariant,
      omega (arith, c.self.invariant.0),
      joins_keep g.A.Allowed.facts _ _ _ _ alive,
    )

pub load-requires : goal.load-requires
load-requires g c = (
  c.join_seat.ensures.0 ∙ (ap (λ (h : Held). h.table) c.token.view_is ∙ (c.requires.table.0 ∙ sym c.self.view_is)),
  omega (arith, c.self.invariant.0),
  weighs_keeps g.A.Allowed.facts _ _ _,
)
