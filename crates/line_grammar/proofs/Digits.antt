-- digits of one width differ where their numbers do
use Rattle.std.proofs.Common.{◌≡◌, ℕ, zero, suc, ◌+◌, ◌-◌, ◌*◌, ◌/◌, ◌%◌, ◌^◌, ◌<◌, List, [], ◌∷◌, ◌++◌, length, refl, sym, ◌∙◌, ap, arith}
use Rattle.std.proofs.Math.Nat.{pow-suc, pow-zero}
use Rattle.line_grammar.specs.Shapes.{digits}
use Rattle.line_grammar.specs.Tokens.{value_after}
use Rattle.line_grammar.proofs.ShapesNumerals.{digits_length}

value_more : (n : ℕ) (bytes : List ℕ) (b : ℕ) → value_after n (bytes ++ (b ∷ [])) ≡ 10 * value_after n bytes + (b - 48)
value_more n [] b = refl
value_more n (c ∷ bytes) b = value_more (10 * n + (c - 48)) bytes b

-- the digits of a number have its value
pub value_of_digits : (width n : ℕ) → n < 10 ^ width → value_after 0 (digits width n) ≡ n
unfolding digits
value_of_digits zero n h = omega (arith, h, pow-zero 10)
value_of_digits (suc width) n h =
    let less : n / 10 < 10 ^ width = omega (arith, h, pow-suc 10 width) in
    let e = value_of_digits width (n / 10) less in
    omega (arith, value_more 0 (digits width (n / 10)) (48 + n % 10), e)

-- two numbers with the same digits are the same
pub one_number : (width m n : ℕ) → m < 10 ^ width → n < 10 ^ width → digits width m ≡ digits width n → m ≡ n
one_number width m n h k e = sym (value_of_digits width m h) ∙ ap (value_after 0) e ∙ value_of_digits width n k

fronts : (a r b s : List ℕ) → length a ≡ length b → a ++ r ≡ b ++ s → (a ≡ b) × (r ≡ s)
fronts [] r [] s h e = (refl, e)
fronts [] r (y ∷ b) s h e = absurd (omega (arith, h))
fronts (x ∷ a) r [] s h e = absurd (omega (arith, h))
fronts (x ∷ a) r (y ∷ b) s h e =
    let head : x ≡ y = cc in
    let rest = fronts a r b s (omega (arith, h)) (cc) in
    (ap (λ (c : ℕ). c ∷ a) head ∙ ap (λ (l : List ℕ). y ∷ l) rest.0, rest.1)

-- so many digits at the front are of one number
pub one_front : (width m n : ℕ) (r s : List ℕ) → m < 10 ^ width → n < 10 ^ width → digits width m ++ r ≡ digits width n ++ s → (m ≡ n) × (r ≡ s)
one_front width m n r s h k e =
    let same = fronts (digits width m) r (digits width n) s (digits_length width m ∙ sym (digits_length width n)) e in
    (one_number width m n h k same.0, same.1)
