use Rattle.std.proofs.Common.{◌+◌, ◌≤◌, subst, sym, add-one}
use Rattle.evidence_board.specs.Views.{place_at}
use Rattle.evidence_board.specs.Seats.{Held}
use Rattle.evidence_board.proofs.StepKinds.{posts_past_keeps}
use Rattle.evidence_board.proofs.words.Words.raise.Goals as goal

pub raise_word-requires-clause-keeps : goal.raise_word-requires-clause-keeps
raise_word-requires-clause-keeps g c lives last =
    let alive = subst (λ (h : Held). 1 ≤ h.view.share) (sym c.token.view_is) c.requires.alive in
    let low = subst (λ (h : Held). (place_at h.view c.args.p).given.least ≤ c.args.symbol) (sym c.token.view_is) c.requires.low in
    posts_past_keeps g.A.Allowed.facts _ _ _ c.args.p c.args.symbol (c.args.symbol + 1) c.requires.place c.requires.allowed (add-one c.args.symbol) low alive
