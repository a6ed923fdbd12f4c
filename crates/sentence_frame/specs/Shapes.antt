-- Shapes: what the text of a field may be. This project's profile over the fields of IEC 61162-1.
use Rattle.std.specs.Prelude.{ℕ, ◌-◌, map, Bool, true, false, ◌&&◌, ◌||◌, ◌==◌, nat_le, List, [], ◌∷◌, length, slice_index}
use Rattle.std.specs.List.{list_all, list_any}
use Rattle.line_grammar.specs.Bytes.{digit_zero}
use Rattle.line_grammar.specs.Tokens.{is_digit, value_after}

-- so many digits that make a number up to the most; two digits that make one of these numbers; so many digits; at most
-- so many digits; one of these letters; this or nothing
pub data Shape : Type 0 where
  number : ℕ → ℕ → Shape
  code : List ℕ → Shape
  digits : ℕ → Shape
  at_most : ℕ → Shape
  letter : List ℕ → Shape
  maybe : Shape → Shape

-- the number that digits make
abbrev pub number_of : List ℕ → ℕ
number_of text = value_after 0 text

-- the values of digits
abbrev pub digits_of : List ℕ → List ℕ
digits_of text = map (λ b. b - digit_zero) text

-- a test of numbers: whether it is one of these
abbrev pub is_among : List ℕ → ℕ → Bool
is_among numbers n = list_any (λ each. each == n) numbers

-- a test of texts: whether they are digits, so many
abbrev pub are_digits : ℕ → List ℕ → Bool
are_digits width text = length text == width && list_all is_digit text

-- a test of texts: whether there is nothing
abbrev pub is_nothing : List ℕ → Bool
is_nothing [] = true
is_nothing (b ∷ text) = false

-- a test of texts: whether a field of this shape may have this text
unfoldable pub accepts : Shape → List ℕ → Bool
accepts (number width most) text = are_digits width text && nat_le (number_of text) most
accepts (code numbers) text = are_digits 2 text && is_among numbers (number_of text)
accepts (digits width) text = are_digits width text
accepts (at_most width) text = nat_le (length text) width && list_all is_digit text
accepts (letter letters) text = length text == 1 && is_among letters (slice_index text 0)
accepts (maybe shape) text = is_nothing text || accepts shape text
