use Rattle.std.proofs.Common.{◌≤◌, subst, sym}
use Rattle.evidence_board.specs.Seats.{Held}
use Rattle.evidence_board.proofs.StepKinds.{posts_least_keeps}
use Rattle.evidence_board.proofs.words.Words.lower.Goals as goal

pub lower_word-requires-clause-keeps : goal.lower_word-requires-clause-keeps
lower_word-requires-clause-keeps g c lives last =
    let alive = subst (λ (h : Held). 1 ≤ h.view.share) (sym c.token.view_is) c.requires.alive in
    posts_least_keeps g.A.Allowed.facts _ _ _ c.args.p c.args.symbol c.requires.place c.requires.allowed alive
