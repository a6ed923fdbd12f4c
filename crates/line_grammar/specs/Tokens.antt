-- Tokens: parts of a line that are read as far as they go. This project's profile.
use Rattle.std.specs.Prelude.{◌≡◌, ◌≢◌, ℕ, ◌+◌, ◌-◌, ◌*◌, ◌≤◌, Bool, true, ◌&&◌, ◌==◌, nat_le, List, [], ◌∷◌}
use Rattle.std.specs.List.{list_any, list_all}
use Rattle.line_grammar.specs.Bytes.{digit_zero, digit_nine}
use Rattle.line_grammar.specs.Shapes.{Shape, IsShaped}

-- a test of bytes: whether it is one of these
abbrev pub is_one_of : List ℕ → ℕ → Bool
is_one_of bytes b = list_any (λ c. c == b) bytes

-- a test of bytes: whether it is a decimal digit
abbrev pub is_digit : ℕ → Bool
is_digit b = nat_le digit_zero b && nat_le b digit_nine

-- the number of more digits after those of a number
abbrev pub value_after : ℕ → List ℕ → ℕ
value_after n [] = n
value_after n (b ∷ digits) = value_after (10 * n + (b - digit_zero)) digits

-- there is a digit, and the first of several is not 0
abbrev pub HasNoLeadingZero : List ℕ → Type 0
HasNoLeadingZero [] = ⊥
HasNoLeadingZero (b ∷ []) = Unit {0}
HasNoLeadingZero (b ∷ c ∷ digits) = b ≢ digit_zero

-- the decimal digits of a number from the least to the most
pub record IsNumber (least most : ℕ) (bytes : List ℕ) : Type 0 where
  pub digits : list_all is_digit bytes ≡ true
  pub leading : HasNoLeadingZero bytes
  pub low : least ≤ value_after 0 bytes
  pub high : value_after 0 bytes ≤ most

-- a token: one or more of these bytes, a number from the first to the second in as many digits as it has, or what has
-- this shape
pub data Token : Type 0 where
  run : List ℕ → Token
  free_number : ℕ → ℕ → Token
  shaped : Shape → Token

-- which bytes are a token
abbrev pub IsToken : Token → List ℕ → Type 0
IsToken (run signs) bytes = (bytes ≢ []) × (list_all (is_one_of signs) bytes ≡ true)
IsToken (free_number least most) bytes = IsNumber least most bytes
IsToken (shaped shape) bytes = IsShaped shape bytes
