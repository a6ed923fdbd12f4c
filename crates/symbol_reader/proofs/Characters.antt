-- Symbols that are characters, below 128.
use Rattle.std.proofs.Common.{ℕ, ◌<◌, List, [], ◌∷◌, ◌++◌, arith}
use Rattle.std.specs.List.{AllByRecursion}
use Rattle.std.proofs.lemmas.Nat.{xor_lt}
use Rattle.symbol_reader.specs.Digits.{ten_digits, eight_digits, six_digits, four_digits}
use Rattle.symbol_reader.specs.Checks.{check_of}

-- each of these is a character, below 128
abbrev pub AreCharacters : List ℕ → Type 0
AreCharacters l = AllByRecursion (λ symbol. symbol < 128) l

-- characters after characters are characters
pub both : (l m : List ℕ) → AreCharacters l → AreCharacters m → AreCharacters (l ++ m)
both [] m a b = b
both (x ∷ l) m a b = (a.0, both l m a.1 b)

-- ten digits
pub ten : (n : ℕ) → n < 10000000000 → AreCharacters (ten_digits n)
unfolding ten_digits
ten n below = (omega arith, (omega arith, (omega arith, (omega arith, (omega arith, tt)))))

-- six digits, and eight
pub of_six : (n : ℕ) → n < 1000000 → AreCharacters (six_digits n)
unfolding six_digits
of_six n below = (omega arith, (omega arith, (omega arith, tt)))

-- eight digits are characters
pub of_eight : (n : ℕ) → n < 100000000 → AreCharacters (eight_digits n)
unfolding eight_digits
of_eight n below = (omega arith, (omega arith, (omega arith, (omega arith, tt))))

-- four digits
pub of_four : (n : ℕ) → n < 10000 → AreCharacters (four_digits n)
unfolding four_digits
of_four n below = (omega arith, (omega arith, tt))

-- the check of characters is one
pub of_check : (l : List ℕ) → AreCharacters l → check_of l < 128
unfolding check_of
of_check [] all = omega arith
of_check (x ∷ l) all = xor_lt 7 x (check_of l) all.0 (of_check l all.1)
