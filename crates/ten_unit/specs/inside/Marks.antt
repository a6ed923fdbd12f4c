-- Elements as bits of words of 64: one bit an element, for tests of many places at once. This project's own form.
use Rattle.std.specs.Prelude.{◌≡◌, ℕ, ◌+◌, ◌<◌, ◌^◌, Bool, cond}
use Rattle.std.specs.Int.{bit_at}
use Rattle.ten_unit.specs.declared.character.Element.{Element}
use Rattle.ten_unit.specs.declared.character.Element.TheVariants.{Y, B}
use Rattle.ten_unit.specs.Word.{element_eq}

-- bit i of the word says whether the test holds at place base + i
pub record IsMarks (word base : ℕ) (f : ℕ → Bool) : Type 0 where
  pub fits : word < 2 ^ 64
  pub each : (i : ℕ) → i < 64 → bit_at word i ≡ cond (f (base + i)) 1 0

-- two words of 64 places from base on: where the element is Y, and where it is B
pub record IsPlanes (y b base : ℕ) (e : ℕ → Element) : Type 0 where
  pub ys : IsMarks y base (λ p. element_eq (e p) Y)
  pub bs : IsMarks b base (λ p. element_eq (e p) B)
