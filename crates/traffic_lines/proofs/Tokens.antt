-- numbers in lines, and whose texts they are
use Rattle.std.proofs.Common.{◌≡◌, ℕ, ◌<◌, ◌≤◌, ◌^◌, decimal, sym, arith}
use Rattle.std.proofs.lemmas.Fmt.{decimal_injective}
use Rattle.line_grammar.specs.declared.decimal.TheConstants.{LARGEST_NUMBER}
use Rattle.line_grammar.specs.Tokens.{free_number, value_after}
use Rattle.line_grammar.proofs.Decimals.{number_text, decimal_number}
use Rattle.line_grammar.proofs.Sections.{TokenTexts}
use Rattle.traffic_lines.specs.Events.{number}

-- each number of a range has one text
pub range_told : (least most : ℕ) → most < 2 ^ 64 → TokenTexts (free_number least most) (λ (n : ℕ). (least ≤ n) × (n ≤ most)) decimal
range_told least most small = record {
  is = λ n h. decimal_number least most n h.0 h.1 small;
  of = λ bytes h. (value_after 0 bytes, (h.low, h.high), sym (number_text least most bytes small h));
  one = λ m n h k e. decimal_injective m n (omega (arith, small, h.1)) (omega (arith, small, k.1)) e;
}

-- and so each number up to the most
pub up_to_told : (most : ℕ) → most < 2 ^ 64 → TokenTexts (free_number 0 most) (λ (n : ℕ). n ≤ most) decimal
up_to_told most small = record {
  is = λ n h. decimal_number 0 most n (omega arith) h small;
  of = λ bytes h. (value_after 0 bytes, h.high, sym (number_text 0 most bytes small h));
  one = λ m n h k e. decimal_injective m n (omega (arith, small, h)) (omega (arith, small, k)) e;
}

pub number_told : TokenTexts number (λ (n : ℕ). n < 2 ^ 32) decimal
number_told = record {
  is = λ n h. decimal_number 0 LARGEST_NUMBER n (omega arith) (omega (arith, h)) (omega arith);
  of = λ bytes h. (value_after 0 bytes, omega (arith, h.high), sym (number_text 0 LARGEST_NUMBER bytes (omega arith) h));
  one = λ m n h k e. decimal_injective m n (omega (arith, h)) (omega (arith, k)) e;
}
