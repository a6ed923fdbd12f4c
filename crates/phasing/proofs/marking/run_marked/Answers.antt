use Rattle.std.proofs.Common.{◌≡◌, ℕ, ◌+◌, ◌<◌, ◌&&◌, length, take, get_or, arith, ap, sym, subst, ◌∙◌}
use Rattle.std.proofs.Math.Seq.{take-length}
use Rattle.ten_unit.specs.declared.character.Element.TheVariants.{Y}
use Rattle.ten_unit.specs.inside.Marks.{IsMarks}
use Rattle.ten_unit.specs.Word.{element_eq}
use Rattle.phasing.specs.inside.Places.{is_at}
use Rattle.phasing.proofs.BitTests.{all_marks, and_marks, same_marks, moved_marks}
use Rattle.phasing.proofs.Words.{is_at_push}
use Rattle.phasing.proofs.marking.run_marked.Goals as goal

pub loop-number-init : goal.loop-number-init
loop-number-init c = λ base e here next. all_marks base

pub loop-number-preserved : goal.loop-number-preserved
loop-number-preserved c = λ base e here next.
    let k = c.loop-number.number in
    let behind = c.args.behind in
    let w = c.args.elements.now in
    let below : k < length w = omega arith in
    let one = moved_marks c.element_marked-all.result base (behind + k) (λ p. element_eq (e p) (get_or w k Y)) (c.element_marked-all.ensures base e here next) in
    let both = and_marks c.loop-number.all c.element_marked-all.result base (λ p. is_at e (take k w) (p + behind)) (λ p. element_eq (e (p + (behind + k))) (get_or w k Y)) (c.loop-number.invariant base e here next) one in
    let place : (p : ℕ) → p + (behind + k) ≡ p + behind + k = λ p. omega arith in
    same_marks _ base _ (λ p. is_at e (take (k + 1) w) (p + behind))
    (λ p. ap (λ (q : ℕ). is_at e (take k w) (p + behind) && element_eq (e q) (get_or w k Y)) (place p) ∙ sym (is_at_push e w k (p + behind) below)) both

pub returns : goal.returns
returns c = λ base e here next.
    let all : c.loop-number.number ≡ length c.args.elements.now = omega arith in
    let whole = ap (λ n. take n c.args.elements.now) all ∙ take-length c.args.elements.now in
    subst (λ w. IsMarks c.loop-number.all base (λ p. is_at e w (p + c.args.behind))) whole (c.loop-number.invariant base e here next)
