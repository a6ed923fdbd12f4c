use Rattle.std.proofs.Common.{◌≤◌, subst, sym}
use Rattle.evidence_board.specs.Seats.{Held}
use Rattle.evidence_board.proofs.StepKinds.{loads_least_keeps}
use Rattle.evidence_board.proofs.words.Words.load_least.Goals as goal

pub least_word-requires-clause-keeps : goal.least_word-requires-clause-keeps
least_word-requires-clause-keeps g c lives last =
    let alive = subst (λ (h : Held). 1 ≤ h.view.share) (sym c.token.view_is) c.requires.alive in
    loads_least_keeps g.A.Allowed.facts _ _ _ c.args.p c.requires.place alive
