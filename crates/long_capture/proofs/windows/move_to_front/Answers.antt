use Rattle.std.proofs.Common.{◌≡◌, ◌≢◌, ℕ, ◌+◌, ◌<◌, length, drop, set, get_or, arith, ap, sym, ◌∙◌, get_or-set_other, get_or-set_same, inl, inr}
use Rattle.std.proofs.lemmas.Bool.{cases_lt}
use Rattle.std.proofs.lemmas.List.{ext_get_or, length-take-le, length-drop, get_or-take, get_or-drop, length-set}
use Rattle.long_capture.proofs.windows.move_to_front.Goals as goal

pub loop-k-preserved : goal.loop-k-preserved
loop-k-preserved c =
    let was = c.loop-k.invariant in
    let b = c.loop-k.buffer in
    let k = c.loop-k.k in
    let x = get_or b (2496 + k) 0 in
    let inside : k < length b = omega (arith, was.long) in
    record {
      long = length-set b k x ∙ was.long;
      front =
          λ i below.
          elim (cases_lt i k) [
            | inl before ↦
                let other : i ≢ k = omega arith in
                get_or-set_other b k i x 0 other ∙ was.front i before
            | inr here ↦
                let at : i ≡ k = omega arith in
                let there : 2496 + k ≡ 2496 + i = omega arith in
                ap (λ (n : ℕ). get_or (set b k x) n 0) at ∙ get_or-set_same b k x 0 inside
                ∙ was.back (2496 + k) (omega arith)
                ∙ ap (λ (n : ℕ). get_or c.args.buffer.now n 0) there
          ];
      back =
          λ i late.
          let other : i ≢ k = omega arith in
          get_or-set_other b k i x 0 other ∙ was.back i late;
    }

pub returns-clause-moved : goal.returns-clause-moved
returns-clause-moved c =
    let was = c.loop-k.invariant in
    let b = c.loop-k.buffer in
    let long = length-take-le 1600 b (omega (arith, was.long)) in
    let rest : length (drop 2496 c.args.buffer.now) ≡ 1600 = omega (arith, length-drop 2496 c.args.buffer.now, c.told-buffer) in
    ext_get_or 0 _ _ (long ∙ sym rest)
    (λ i below.
    let few : i < 1600 = omega (arith, long) in
    get_or-take 1600 b i 0 few ∙ was.front i (omega arith) ∙ sym (get_or-drop 2496 c.args.buffer.now i 0))
