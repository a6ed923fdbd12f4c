-- equal numbers, and marks from equal places on
use Rattle.std.proofs.Common.{◌≡◌, ℕ, Bool, nat_le, ap, subst}
use Rattle.ten_unit.specs.inside.Marks.{IsMarks, IsPlanes}
use Rattle.ten_unit.specs.declared.character.Element.{Element}
use Rattle.phasing.specs.declared.counting.Count.{Count}
use Rattle.phasing.specs.declared.marking.Phasing.{Phasing}
use Rattle.phasing.specs.inside.Marked.{ArePhasing, IsCount}
use Rattle.phasing.proofs.BitTests.{same_marks}

-- a count goes by the numbers alone
pub same_count : (count : Count) (base : ℕ) (m n : ℕ → ℕ) → ((p : ℕ) → m p ≡ n p) → IsCount count base m → IsCount count base n
same_count count base m n same h = record {
  one = same_marks count.one base _ _ (λ p. ap (nat_le 1) (same p)) h.one;
  two = same_marks count.two base _ _ (λ p. ap (nat_le 2) (same p)) h.two;
  three = same_marks count.three base _ _ (λ p. ap (nat_le 3) (same p)) h.three;
}

pub phasing_at : (marks : Phasing) (a b : ℕ) (e : ℕ → Element) → a ≡ b → ArePhasing marks a e → ArePhasing marks b e
phasing_at marks a b e same h = subst (λ n. ArePhasing marks n e) same h

pub planes_at : (y b from to : ℕ) (e : ℕ → Element) → from ≡ to → IsPlanes y b from e → IsPlanes y b to e
planes_at y b from to e same h = subst (λ n. IsPlanes y b n e) same h

pub block_at : (word from to : ℕ) (f : ℕ → Bool) → from ≡ to → IsMarks word from f → IsMarks word to f
block_at word from to f same h = subst (λ n. IsMarks word n f) same h
