-- Tests: alternatives that one side alone decides, and numbers that differ.
use Rattle.std.proofs.Common.{◌≡◌, ℕ, ◌==◌, ◌||◌, Bool, true, false, refl, sym, ap}
use Rattle.std.proofs.lemmas.Bool.{eqb-false, ne_eqb}

-- where the second is false the first decides
pub or_false_right : (a b : Bool) → b ≡ false → (a || b) ≡ a
or_false_right true b is = refl
or_false_right false b is = is

-- where the first is false the second decides
pub or_false_left : (a b : Bool) → a ≡ false → (a || b) ≡ b
or_false_left a b is = ap (λ (x : Bool). x || b) is

-- numbers that differ do so either way round
pub apart_turned : (a b : ℕ) → (a == b) ≡ false → (b == a) ≡ false
apart_turned a b apart = ne_eqb b a (λ same. eqb-false a b apart (sym same))
