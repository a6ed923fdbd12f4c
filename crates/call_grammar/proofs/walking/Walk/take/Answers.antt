use Rattle.std.proofs.Common.{◌≡◌, ◌⊎◌, ℕ, ◌<◌, inl, inr, List, [], ◌∷◌, ◌++◌, length, take, drop, lit<, refl, sym, ◌∙◌, ap, subst, arith}
use Rattle.call_grammar.specs.Walk.{IsDone, IsStep}
use Rattle.call_grammar.specs.inside.Judging.{Judges}
use Rattle.call_grammar.proofs.Steps.{pushed, not_done, step_taken, step_left, walk_keeps, taken_back}
use Rattle.call_grammar.proofs.Lengths.{walking_short}
use Rattle.call_grammar.proofs.walking.Walk.take.Goals as goal
use Rattle.call_grammar.proofs.walking.Walk.take.Goals.{then-before-eq0, else-before-eq0}

pub push-requires-2 : goal.push-requires-2
push-requires-2 c =
    let short : length c.self.inside.taken.items < 30 =
    omega (arith, walking_short _ (not_done _ c.self.invariant (λ d. c.requires.open (subst IsDone c.self.view_is d)))) in
    elim c.if-before-eq0.branch [
      | then-before-eq0 w ↦ rw w.self-inside-is (lit< tt, omega (arith, w.push.ensures.len))
      | else-before-eq0 w ↦ rw w.self-inside-is (lit< tt, omega arith)
    ]

pub invariant_of-self-else-not-is_taken : goal.invariant_of-self-else-not-is_taken
invariant_of-self-else-not-is_taken c =
    let old : List ℕ = c.self.inside.taken.items in
    let mid : List ℕ = c.if-before-eq0.self-inside.taken.items in
    let walking = not_done old c.self.invariant (λ d. c.requires.open (subst IsDone c.self.view_is d)) in
    let once : ((length old ≡ 0) × (mid ≡ old ++ (c.args.x ∷ []))) ⊎ ((0 < length old) × (mid ≡ old)) =
    elim c.if-before-eq0.branch [
      | then-before-eq0 w ↦ inl (sym c.len-before.ensures.value ∙ w.if-before-eq0.true, rw w.self-inside-is w.push.ensures.items)
      | else-before-eq0 w ↦ inr (omega (arith, w.if-before-eq0.false, c.len-before.ensures.value), rw w.self-inside-is refl)
    ] in
    let list = pushed old mid c.push-2.new.self.items c.args.x once c.push-2.ensures.items in
    let judged = subst (λ a. Judges (drop 1 a) c.judge-step.result) (c.as_slice.ensures.value ∙ list) c.judge-step.ensures in
    let kept = walk_keeps old c.args.x c.judge-step.result walking judged (sym c.is_taken.ensures ∙ c.if-not-is_taken.false) in
    rw list (inr kept)

pub returns-else-not-is_taken : goal.returns-else-not-is_taken
returns-else-not-is_taken c =
    let old : List ℕ = c.self.inside.taken.items in
    let mid : List ℕ = c.if-before-eq0.self-inside.taken.items in
    let walking = not_done old c.self.invariant (λ d. c.requires.open (subst IsDone c.self.view_is d)) in
    let once : ((length old ≡ 0) × (mid ≡ old ++ (c.args.x ∷ []))) ⊎ ((0 < length old) × (mid ≡ old)) =
    elim c.if-before-eq0.branch [
      | then-before-eq0 w ↦ inl (sym c.len-before.ensures.value ∙ w.if-before-eq0.true, rw w.self-inside-is w.push.ensures.items)
      | else-before-eq0 w ↦ inr (omega (arith, w.if-before-eq0.false, c.len-before.ensures.value), rw w.self-inside-is refl)
    ] in
    let list = pushed old mid c.push-2.new.self.items c.args.x once c.push-2.ensures.items in
    let judged = subst (λ a. Judges (drop 1 a) c.judge-step.result) (c.as_slice.ensures.value ∙ list) c.judge-step.ensures in
    let step = step_taken old c.args.x c.judge-step.result c.push-2.new.self.items walking judged (sym c.is_taken.ensures ∙ c.if-not-is_taken.false) list in
    record { step = subst (λ a. IsStep a c.args.x c.judge-step.result c.push-2.new.self.items) c.self.view_is step }

pub returns-then-not-is_taken : goal.returns-then-not-is_taken
returns-then-not-is_taken c =
    let old : List ℕ = c.self.inside.taken.items in
    let mid : List ℕ = c.if-before-eq0.self-inside.taken.items in
    let walking = not_done old c.self.invariant (λ d. c.requires.open (subst IsDone c.self.view_is d)) in
    let once : ((length old ≡ 0) × (mid ≡ old ++ (c.args.x ∷ []))) ⊎ ((0 < length old) × (mid ≡ old)) =
    elim c.if-before-eq0.branch [
      | then-before-eq0 w ↦ inl (sym c.len-before.ensures.value ∙ w.if-before-eq0.true, rw w.self-inside-is w.push.ensures.items)
      | else-before-eq0 w ↦ inr (omega (arith, w.if-before-eq0.false, c.len-before.ensures.value), rw w.self-inside-is refl)
    ] in
    let list = pushed old mid c.push-2.new.self.items c.args.x once c.push-2.ensures.items in
    let judged = subst (λ a. Judges (drop 1 a) c.judge-step.result) (c.as_slice.ensures.value ∙ list) c.judge-step.ensures in
    let back : c.truncate.new.self.items ≡ old =
    c.truncate.ensures.items ∙ ap (λ n. take n c.push-2.new.self.items) c.len-before.ensures.value
    ∙ ap (λ a. take (length old) a) list ∙ taken_back old c.args.x in
    let step = step_left old c.args.x c.judge-step.result c.truncate.new.self.items walking judged (sym c.is_taken.ensures ∙ c.if-not-is_taken.true) back in
    record { step = subst (λ a. IsStep a c.args.x c.judge-step.result c.truncate.new.self.items) c.self.view_is step }
