-- Digits two to a character: ITU-R M.493, numbers in the symbols 0 to 99.
use Rattle.std.specs.Prelude.{ℕ, ◌/◌, ◌%◌, List, [], ◌∷◌}

-- ten digits in five characters of two digits each
unfoldable pub ten_digits : ℕ → List ℕ
ten_digits n = (n / 100000000) ∷ (n / 1000000 % 100) ∷ (n / 10000 % 100) ∷ (n / 100 % 100) ∷ (n % 100) ∷ []

-- eight digits in four characters
unfoldable pub eight_digits : ℕ → List ℕ
eight_digits n = (n / 1000000) ∷ (n / 10000 % 100) ∷ (n / 100 % 100) ∷ (n % 100) ∷ []

-- six digits in three characters
unfoldable pub six_digits : ℕ → List ℕ
six_digits n = (n / 10000) ∷ (n / 100 % 100) ∷ (n % 100) ∷ []

-- four digits in two characters
unfoldable pub four_digits : ℕ → List ℕ
four_digits n = (n / 100) ∷ (n % 100) ∷ []
