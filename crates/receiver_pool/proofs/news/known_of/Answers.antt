use Rattle.std.proofs.Common.{◌≡◌, ℕ, ◌+◌, [], ◌∷◌, List, length, slice_index, arith, ap, sym, ◌∙◌, subst, inl, inr}
use Rattle.std.proofs.lemmas.Bool.{cases_lt}
use Rattle.std.proofs.lemmas.List.{get_or_append_left, get_or_push, length-append}
use Rattle.slot_evidence.specs.declared.places.Seen.{Seen}
use Rattle.receiver_pool.specs.Groups.{AreAlikeBeyond, known_at}
use Rattle.receiver_pool.proofs.news.known_of.Goals as goal

pub loop-group-preserved : goal.loop-group-preserved
loop-group-preserved c =
    let was = c.loop-group.invariant in
    let i = c.loop-group.group-index in
    let old = c.loop-group.sheets.items in
    let items = c.in_ok-push.ensures.items in
    let known = c.args.known.now in
    record {
      count = ap (λ (s : List (List Seen)). length s) items ∙ length-append old (c.sheet_of.result ∷ []) ∙ ap (λ (n : ℕ). n + 1) was.count;
      known = λ k below F G alike. elim (cases_lt k i) [
        | inl before ↦
            was.known k before F G
            (subst (λ (s : List Seen). AreAlikeBeyond s F G)
            (ap (λ (s : List (List Seen)). known_at s k) items ∙ get_or_append_left old (c.sheet_of.result ∷ []) [] k (omega (arith, was.count))) alike)
        | inr here ↦
            let at : k ≡ i = omega arith in
            subst (λ (j : ℕ). AreAlikeBeyond (known_at known (slice_index c.args.groups.now j)) F G) (sym at)
            (c.sheet_of.ensures F G
            (subst (λ (s : List Seen). AreAlikeBeyond s F G)
            (ap (λ (s : List (List Seen)). known_at s k) items ∙ get_or_push old c.sheet_of.result [] k (was.count ∙ sym at)) alike))
      ];
    }
