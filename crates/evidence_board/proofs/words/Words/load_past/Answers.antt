use Rattle.std.proofs.Common.{◌≤◌, refl, subst, sym}
use Rattle.evidence_board.specs.Seats.{Held}
use Rattle.evidence_board.specs.inside.Tells.{IsPastFound}
use Rattle.evidence_board.proofs.StepKinds.{loads_past_keeps}
use Rattle.evidence_board.proofs.words.Words.load_past.Goals as goal

pub past_word-requires-clause-keeps : goal.past_word-requires-clause-keeps
past_word-requires-clause-keeps g c lives last =
    let alive = subst (λ (h : Held). 1 ≤ h.view.share) (sym c.token.view_is) c.requires.alive in
    loads_past_keeps g.A.Allowed.facts _ _ _ c.args.p c.requires.place alive

pub returns-clause-told : goal.returns-clause-told
returns-clause-told g c =
    subst (λ (h : Held). IsPastFound g.A.Allowed.facts c.args.p h.view c.past_word.result) c.token.view_is (c.past_word.ensures.told.0 c.args.p refl).1
