-- numbers without leading zeros are decimals
use Rattle.std.proofs.Common.{◌≡◌, ℕ, zero, suc, ◌^◌, ◌<◌, ◌≤◌, nat_le, true, List, ◌++◌, length, get_or, Result, Ok, refl, sym, ◌∙◌, ap, subst, arith}
use Rattle.std.specs.List.{list_all}
use Rattle.std.specs.Fmt.{decimal}
use Rattle.std.proofs.lemmas.Bool.{and_parts, and_from, leb-true, le-leb}
use Rattle.std.proofs.lemmas.Fmt.{digits_decimal, digits_value-decimal, decimal-digits_value, decimal_nonempty, first_decimal, decimal_digit}
use Rattle.std.proofs.lemmas.Str.Parse.{IsDigitsTest, FoldsDigits, IsNumeralModel, numerals_by_fold}
use Rattle.line_grammar.specs.Tokens.{is_digit, value_after, HasNoLeadingZero, IsNumber, free_number}
use Rattle.line_grammar.specs.inside.Reading.{read_token}
use Rattle.line_grammar.proofs.Tokens.{TokenReads}
use Rattle.line_grammar.proofs.Munching.{token_reads}

are_digits : List ℕ → Type 0
are_digits bytes = list_all is_digit bytes ≡ true

tells : IsDigitsTest are_digits
unfolding are_digits
tells = record {
  empty = refl;
  parts = λ c cs e.
      let k = and_parts (is_digit c) (list_all is_digit cs) e in
      let m = and_parts (nat_le 48 c) (nat_le c 57) k.0 in
      ((leb-true 48 c m.0, leb-true c 57 m.1), k.1);
  more = λ c cs k e. and_from (is_digit c) (list_all is_digit cs) (and_from (nat_le 48 c) (nat_le c 57) (le-leb 48 c k.0) (le-leb c 57 k.1)) e;
}

folds : FoldsDigits value_after
folds = record { empty = λ n. refl; more = λ n c cs k. ap (λ (m : ℕ). value_after m cs) (omega arith) }

model : IsNumeralModel are_digits (value_after 0)
model = numerals_by_fold are_digits tells value_after folds

has_byte : (bytes : List ℕ) → HasNoLeadingZero bytes → 0 < length bytes
has_byte bytes h = grind arith

one_zero : (bytes : List ℕ) → HasNoLeadingZero bytes → get_or bytes 0 0 ≡ 48 → length bytes ≡ 1
one_zero bytes h e = grind arith

-- a number's bytes are its decimal digits
pub number_text : (least most : ℕ) (bytes : List ℕ) → most < 2 ^ 64 → IsNumber least most bytes → decimal (value_after 0 bytes) ≡ bytes
unfolding are_digits
number_text least most bytes small h =
    decimal-digits_value model bytes h.digits (has_byte bytes h.leading) (one_zero bytes h.leading) (omega (arith, h.high))

-- the decimal digits of a number are its bytes
pub decimal_value : (n : ℕ) → n < 2 ^ 64 → value_after 0 (decimal n) ≡ n
decimal_value n small = digits_value-decimal model n small

no_zero : (bytes : List ℕ) → 0 < length bytes → 48 < get_or bytes 0 0 → HasNoLeadingZero bytes
no_zero bytes some h = grind arith

leading : (n : ℕ) → n < 2 ^ 64 → HasNoLeadingZero (decimal n)
leading zero small = subst HasNoLeadingZero (sym (decimal_digit 0 (omega arith))) tt
leading (suc n) small = no_zero (decimal (suc n)) (decimal_nonempty (suc n) small) (first_decimal (suc n) (omega arith) small)

-- a number's decimal digits are a number's text
pub decimal_number : (least most n : ℕ) → least ≤ n → n ≤ most → most < 2 ^ 64 → IsNumber least most (decimal n)
unfolding are_digits
decimal_number least most n low high small =
    let value = decimal_value n (omega (arith, high, small)) in
    record {
      digits = digits_decimal model n (omega (arith, high, small));
      leading = leading n (omega (arith, high, small));
      low = omega (arith, value, low);
      high = omega (arith, value, high);
    }

-- a number that was read is the decimal digits of its value
is_number : (least most : ℕ) (bytes : List ℕ) (r : Result (List ℕ × List ℕ) ℕ) (front back : List ℕ) → TokenReads (free_number least most) bytes r → r ≡ Ok (front, back)
    → (bytes ≡ front ++ back) × IsNumber least most front
is_number least most bytes r front back h e = grind arith

-- what is read as a number is its decimal digits, within the bounds
pub number_read : (least most n : ℕ) (bytes front back : List ℕ) → least ≤ most → most < 2 ^ 64 → read_token (free_number least most) bytes ≡ Ok (front, back) → value_after 0 front ≡ n
    → (bytes ≡ decimal n ++ back) × (least ≤ n) × (n ≤ most) × (front ≡ decimal n)
number_read least most n bytes front back order small e value =
    let h = is_number least most bytes (read_token (free_number least most) bytes) front back (token_reads (free_number least most) bytes (le-leb least most order)) e in
    let text = sym (number_text least most front small h.1) ∙ ap decimal value in
    (h.0 ∙ ap (λ (l : List ℕ). l ++ back) text, omega (arith, value, h.1.low), omega (arith, value, h.1.high), text)
