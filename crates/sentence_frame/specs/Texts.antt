-- The texts of values: numbers and digits. This project's profile over the fields of IEC 61162-1.
use Rattle.std.specs.Prelude.{◌≡◌, ℕ, ◌+◌, ◌≤◌, true, nat_lt, List, [], length, map, Option, Some, None}
use Rattle.std.specs.List.{list_all}
use Rattle.line_grammar.specs.Bytes.{digit_zero}
unfoldable pub use Rattle.line_grammar.specs.Shapes.{digits}

-- digits in decimal
abbrev pub digit_text : List ℕ → List ℕ
digit_text values = map (λ d. digit_zero + d) values

-- the text of a value, and nothing where there is none
abbrev pub perhaps_text : {V : Type 0} → (V → List ℕ) → Option V → List ℕ
perhaps_text text None = []
perhaps_text text (Some value) = text value

-- digits are below ten
abbrev pub AreDigits : List ℕ → Type 0
AreDigits values = list_all (λ d. nat_lt d 10) values ≡ true

-- so many digits
pub record IsDigits (width : ℕ) (values : List ℕ) : Type 0 where
  pub long : length values ≡ width
  pub digits : AreDigits values

-- at most so many digits
pub record IsUpToDigits (width : ℕ) (values : List ℕ) : Type 0 where
  pub long : length values ≤ width
  pub digits : AreDigits values
