use Rattle.std.proofs.Common.{ℕ, List, subst, sym, ◌∙◌, ap}
use Rattle.evidence_board.specs.Views.{place_at}
use Rattle.evidence_board.specs.Rule.{IsWithin, words_of}
use Rattle.evidence_board.specs.Seats.{Held, IsSeated}
use Rattle.evidence_board.proofs.Rests.{whole_gives, whole_sees}
use Rattle.evidence_board.proofs.words.Words.close.Goals as goal

pub returns-clause-words : goal.returns-clause-words
returns-clause-words g c =
    λ p below.
    let last = c.close_with.ensures.values.2 in
    let whole = ap (λ (h : Held). h.view.share) c.token.view_is ∙ c.requires.whole in
    let seated = subst (λ (h : Held). IsSeated h.view) (sym c.token.view_is) c.requires.seated in
    ap (λ (words : List ℕ). words_of words p) (sym last.2)
    ∙ whole_gives g.A.Allowed.facts last.0.words last.0.views _ _ last.1.0 last.1.1 whole seated p below
    ∙ ap (λ (h : Held). (place_at h.view p).given) c.token.view_is

pub returns-clause-seen : goal.returns-clause-seen
returns-clause-seen g c =
    λ p below.
    let last = c.close_with.ensures.values.2 in
    let whole = ap (λ (h : Held). h.view.share) c.token.view_is ∙ c.requires.whole in
    let seated = subst (λ (h : Held). IsSeated h.view) (sym c.token.view_is) c.requires.seated in
    subst (λ (h : Held). IsWithin (place_at h.view p).seen (place_at h.view p).given) c.token.view_is
    (whole_sees g.A.Allowed.facts last.0.words last.0.views _ _ last.1.0 last.1.1 whole seated p below)
