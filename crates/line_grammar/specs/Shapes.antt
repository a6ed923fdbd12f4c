-- Shapes: parts of a line whose own bytes show where they end. This project's profile.
use Rattle.std.specs.Prelude.{◌≡◌, ℕ, zero, suc, ◌+◌, ◌/◌, ◌%◌, Bool, true, ◌&&◌, nat_le, List, [], ◌∷◌, ◌++◌, ◌⊎◌}
use Rattle.std.specs.List.{list_any}
use Rattle.line_grammar.specs.Bytes.{digit_zero}

-- the last so many decimal digits of a number, zeros in front included
unfoldable pub digits : ℕ → ℕ → List ℕ
digits zero n = []
digits (suc width) n = digits width (n / 10) ++ (digit_zero + n % 10) ∷ []

-- a test of numbers: whether one of these ranges has it, their ends included
abbrev pub is_within : List (ℕ × ℕ) → ℕ → Bool
is_within ranges n = list_any (λ range. nat_le range.0 n && nat_le n range.1) ranges

-- a shape: these letters, a number of these ranges in a fixed number of digits, one shape and then another, or one of
-- two
pub data Shape : Type 0 where
  letters : List ℕ → Shape
  fixed_number : ℕ → List (ℕ × ℕ) → Shape
  pair : Shape → Shape → Shape
  choice : Shape → Shape → Shape

-- which bytes have a shape
abbrev pub IsShaped : Shape → List ℕ → Type 0
IsShaped (letters text) bytes = bytes ≡ text
IsShaped (fixed_number width ranges) bytes = (n : ℕ) × (is_within ranges n ≡ true) × (bytes ≡ digits width n)
IsShaped (pair left right) bytes = (front : List ℕ) × (back : List ℕ) × (bytes ≡ front ++ back) × IsShaped left front × IsShaped right back
IsShaped (choice left right) bytes = IsShaped left bytes ⊎ IsShaped right bytes
