use Rattle.std.proofs.Common.{ℕ, ◌-◌, subst, sym, ◌∙◌}
use Rattle.slot_evidence.specs.Sheet.{seen_at}
use Rattle.slot_evidence.specs.Allowed.{IsAllowed}
use Rattle.evidence_board.proofs.Changes.{least_in, greatest_in}
use Rattle.evidence_board.proofs.posting.post_place.Goals as goal

pub post_ends-requires-clause-least : goal.post_ends-requires-clause-least
post_ends-requires-clause-least g c lives last =
    let ends = c.ends_at-least.ensures in
    let seen = seen_at c.args.sheet.now c.args.p in
    subst (IsAllowed g.A.Allowed.facts c.args.p) (sym ends.least)
    (c.requires.allowed c.args.p _ (least_in seen (λ none. c.if-past-eq0.false (ends.past ∙ none))))

pub post_ends-requires-clause-greatest : goal.post_ends-requires-clause-greatest
post_ends-requires-clause-greatest g c lives last =
    let ends = c.ends_at-least.ensures in
    let seen = seen_at c.args.sheet.now c.args.p in
    subst (λ (n : ℕ). IsAllowed g.A.Allowed.facts c.args.p (n - 1)) (sym ends.past)
    (c.requires.allowed c.args.p _ (greatest_in seen (λ none. c.if-past-eq0.false (ends.past ∙ none))))
