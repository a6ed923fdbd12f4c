use Rattle.std.proofs.Common.{◌≡◌, ℕ, ◌+◌, not, ◌||◌, bit_or, refl, sym, subst}
use Rattle.std.specs.Int.{bit_not, w64}
use Rattle.ten_unit.specs.declared.character.Element.{Element}
use Rattle.ten_unit.specs.declared.character.Element.TheVariants.{Y, B, Lost}
use Rattle.ten_unit.specs.inside.Marks.{IsMarks}
use Rattle.ten_unit.specs.Word.{element_eq}
use Rattle.phasing.proofs.BitTests.{or_marks, not_marks, same_marks}
use Rattle.phasing.proofs.marking.element_marked.Goals as goal

is_lost : (x : Element) → not (element_eq x Y || element_eq x B) ≡ element_eq x Lost
is_lost Y = refl
is_lost B = refl
is_lost Lost = refl

pub returns-in-Y : goal.returns-in-Y
returns-in-Y c = λ base e here next.
    subst (λ (x : Element). IsMarks c.shifted-y.result (base + c.args.shift) (λ p. element_eq (e p) x)) (sym c.in-Y.is)
    (c.shifted-y.ensures base (λ p. element_eq (e p) Y) here.ys next.ys)

pub returns-in-B : goal.returns-in-B
returns-in-B c = λ base e here next.
    subst (λ (x : Element). IsMarks c.shifted-b.result (base + c.args.shift) (λ p. element_eq (e p) x)) (sym c.in-B.is)
    (c.shifted-b.ensures base (λ p. element_eq (e p) B) here.bs next.bs)

pub returns-in-Lost : goal.returns-in-Lost
returns-in-Lost c = λ base e here next.
    let is_y = λ (p : ℕ). element_eq (e p) Y in
    let is_b = λ (p : ℕ). element_eq (e p) B in
    let either = or_marks c.shifted-y.result c.shifted-b.result (base + c.args.shift) is_y is_b (c.shifted-y.ensures base is_y here.ys next.ys) (c.shifted-b.ensures base is_b here.bs next.bs) in
    let neither = not_marks (bit_or c.shifted-y.result c.shifted-b.result) (base + c.args.shift) (λ p. is_y p || is_b p) either in
    let lost = same_marks _ (base + c.args.shift) _ (λ p. element_eq (e p) Lost) (λ p. is_lost (e p)) neither in
    subst (λ (x : Element). IsMarks (bit_not w64 (bit_or c.shifted-y.result c.shifted-b.result)) (base + c.args.shift) (λ p. element_eq (e p) x)) (sym c.in-Lost.is) lost
