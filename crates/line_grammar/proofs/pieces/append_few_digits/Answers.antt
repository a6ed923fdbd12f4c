use Rattle.std.proofs.Common.{◌≡◌, ℕ, ◌+◌, ◌-◌, ◌/◌, ◌%◌, ◌<◌, ◌++◌, ◌∷◌, List, length, take, drop, set, get_or, sym, ap, ◌∙◌, append_assoc, arith}
use Rattle.std.proofs.lemmas.List.{length-set, drop-set, length-take-le}
use Rattle.std.proofs.Math.Seq.{take-set-lt}
use Rattle.line_grammar.specs.Shapes.{digits}
use Rattle.line_grammar.proofs.LastDigits.{last_two, first_two, none_left, one_left}
use Rattle.line_grammar.proofs.pieces.append_few_digits.Goals as goal
use Rattle.line_grammar.proofs.pieces.append_few_digits.Goals.{then-at-gt0, else-at-gt0}

pub loop-at-preserved : goal.loop-at-preserved
loop-at-preserved g c =
    let width = c.args.width in
    let text = c.loop-at.text in
    let rest = c.loop-at.rest in
    let at = c.loop-at.at in
    let was = c.loop-at.invariant in
    let pair = c.two_digits-pair.result in
    let a = get_or pair 0 0 in
    let b = get_or pair 1 0 in
    let front = take width text in
    let some : 1 < at = c.loop-at-test.true in
    let long : length front ≡ width = length-take-le width text (omega (arith, was.long, c.requires.few)) in
    let first : at - 2 < width = omega (arith, was.within, some) in
    let second : at - 2 + 1 < width = omega (arith, was.within, some) in
    let next : at - 2 + 1 + 1 ≡ at = omega (arith, some) in
    let same = length-set front (at - 2 + 1) b in
    let written : drop (at - 2) (take width (set (set text (at - 2 + 1) b) (at - 2) a)) ≡ digits 2 (rest % 100) ++ drop at front =
    ap (drop (at - 2))
    (take-set-lt width (set text (at - 2 + 1) b) (at - 2) a first ∙ ap (λ (l : List ℕ). set l (at - 2) a) (take-set-lt width text (at - 2 + 1) b second))
    ∙ drop-set (set front (at - 2 + 1) b) (at - 2) a (omega (arith, same, long, first))
    ∙ ap (λ (l : List ℕ). a ∷ l) (drop-set front (at - 2 + 1) b (omega (arith, long, second)))
    ∙ ap (λ (n : ℕ). a ∷ b ∷ drop n front) next
    ∙ ap (λ (l : List ℕ). l ++ drop at front) (first_two pair (rest % 100) c.two_digits-pair.ensures)
    in record {
      long = length-set (set text (at - 2 + 1) b) (at - 2) a ∙ length-set text (at - 2 + 1) b ∙ was.long;
      within = omega (arith, was.within);
      digits = was.digits
          ∙ ap (λ (l : List ℕ). l ++ drop at front) (last_two at rest some)
          ∙ append_assoc (digits (at - 2) (rest / 100)) (digits 2 (rest % 100)) (drop at front)
          ∙ ap (λ (l : List ℕ). digits (at - 2) (rest / 100) ++ l) (sym written);
    }

pub returns-clause-items : goal.returns-clause-items
returns-clause-items g c =
    let width = c.args.width in
    let at = c.loop-at.at in
    let rest = c.loop-at.rest in
    let was = c.loop-at.invariant in
    let front = take width c.loop-at.text in
    let long : length front ≡ width = length-take-le width c.loop-at.text (omega (arith, was.long, c.requires.few)) in
    let text : digits width c.args.number ≡ take width c.if-at-gt0.text =
    elim c.if-at-gt0.branch [
      | then-at-gt0 w ↦
          was.digits
          ∙ one_left at rest front (omega (arith, w.if-at-gt0, c.loop-at-test.false)) (omega (arith, long, was.within, w.if-at-gt0))
          ∙ sym (take-set-lt width c.loop-at.text 0 (48 + rest % 10) (omega (arith, was.within, w.if-at-gt0)))
          ∙ ap (take width) (sym w.text-is)
      | else-at-gt0 w ↦ was.digits ∙ none_left at rest front (omega (arith, w.if-at-gt0)) ∙ ap (take width) (sym w.text-is)
    ] in
    c.append.ensures.items ∙ ap (λ (l : List ℕ). c.args.out.now.items ++ l) (sym text)
