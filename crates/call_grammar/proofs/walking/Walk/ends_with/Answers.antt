use Rattle.std.proofs.Common.{◌≡◌, ◌++◌, [], ◌∷◌, drop, sym, ap, ◌∙◌, subst, arith}
use Rattle.call_grammar.specs.Walk.{IsAtEnd}
use Rattle.call_grammar.specs.inside.Judging.{IsCovered}
use Rattle.call_grammar.proofs.Ends.{taken_short, end_at}
use Rattle.call_grammar.proofs.walking.Walk.ends_with.Goals as goal

pub followed-list-requires : goal.followed-list-requires
followed-list-requires c = rw c.as_slice.ensures.value (omega (arith, taken_short c.self.inside.taken.items c.self.invariant))

pub returns-clause-at_end : goal.returns-clause-at_end
returns-clause-at_end c = λ yes.
    let list : c.as_slice-2.result.now ≡ c.self.inside.taken.items ++ (c.args.end ∷ []) =
    c.as_slice-2.ensures.value ∙ c.followed-list.ensures ∙ ap (λ a. a ++ (c.args.end ∷ [])) c.as_slice.ensures.value in
    let covered = subst (λ a. IsCovered (drop 1 a)) list (c.is_covered.ensures.0 yes) in
    subst IsAtEnd c.self.view_is (end_at c.self.inside.taken.items c.args.end c.self.invariant covered)

pub returns-clause-covered : goal.returns-clause-covered
returns-clause-covered c = λ covered.
    let list : c.as_slice-2.result.now ≡ c.self.inside.taken.items ++ (c.args.end ∷ []) =
    c.as_slice-2.ensures.value ∙ c.followed-list.ensures ∙ ap (λ a. a ++ (c.args.end ∷ [])) c.as_slice.ensures.value in
    let whole = list ∙ ap (λ a. a ++ (c.args.end ∷ [])) c.self.view_is in
    c.is_covered.ensures.1 (subst (λ a. IsCovered (drop 1 a)) (sym whole) covered)
