-- Digits two to a character.
use Rattle.std.proofs.Common.{◌≡◌, ℕ, ◌+◌, ◌*◌, ◌≤◌, [], ◌∷◌, length, refl, arith}
use Rattle.symbol_reader.specs.Digits.{ten_digits, eight_digits, six_digits, four_digits}

five : {a b c d e a' b' c' d' e' : ℕ} → a ≡ a' → b ≡ b' → c ≡ c' → d ≡ d' → e ≡ e'
    → a ∷ b ∷ c ∷ d ∷ e ∷ [] ≡ a' ∷ b' ∷ c' ∷ d' ∷ e' ∷ []
five p q r s t = cc

-- five characters of two digits are the ten digits of the number that they make
pub ten_digits-of : (n a b c d e : ℕ) → b ≤ 99 → c ≤ 99 → d ≤ 99 → e ≤ 99
    → n ≡ 100000000 * a + 1000000 * b + 10000 * c + 100 * d + e → ten_digits n ≡ a ∷ b ∷ c ∷ d ∷ e ∷ []
unfolding ten_digits
ten_digits-of n a b c d e hb hc hd he h = five (omega arith) (omega arith) (omega arith) (omega arith) (omega arith)

-- lists of three, one by one
pub three : {a b c a' b' c' : ℕ} → a ≡ a' → b ≡ b' → c ≡ c' → a ∷ b ∷ c ∷ [] ≡ a' ∷ b' ∷ c' ∷ []
three p q r = cc

four : {a b c d a' b' c' d' : ℕ} → a ≡ a' → b ≡ b' → c ≡ c' → d ≡ d' → a ∷ b ∷ c ∷ d ∷ [] ≡ a' ∷ b' ∷ c' ∷ d' ∷ []
four p q r s = cc

-- three characters of two digits are the six digits of the number that they make
pub six-of : (n a b c : ℕ) → b ≤ 99 → c ≤ 99 → n ≡ 10000 * a + 100 * b + c → six_digits n ≡ a ∷ b ∷ c ∷ []
unfolding six_digits
six-of n a b c hb hc h = three (omega arith) (omega arith) (omega arith)

-- and four the eight digits
pub eight-of : (n a b c d : ℕ) → b ≤ 99 → c ≤ 99 → d ≤ 99 → n ≡ 1000000 * a + 10000 * b + 100 * c + d → eight_digits n ≡ a ∷ b ∷ c ∷ d ∷ []
unfolding eight_digits
eight-of n a b c d hb hc hd h = four (omega arith) (omega arith) (omega arith) (omega arith)

two : {a b a' b' : ℕ} → a ≡ a' → b ≡ b' → a ∷ b ∷ [] ≡ a' ∷ b' ∷ []
two p q = cc

-- and two the four digits
pub four-of : (n a b : ℕ) → b ≤ 99 → n ≡ 100 * a + b → four_digits n ≡ a ∷ b ∷ []
unfolding four_digits
four-of n a b hb h = two (omega arith) (omega arith)

-- eight digits are four characters
pub length-eight : (n : ℕ) → length (eight_digits n) ≡ 4
unfolding eight_digits
length-eight n = refl
