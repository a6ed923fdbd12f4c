-- numbers whose digits are read before they are judged
use Rattle.std.proofs.Common.{◌≡◌, ℕ, zero, suc, ◌+◌, ◌-◌, ◌*◌, ◌/◌, ◌%◌, ◌^◌, ◌<◌, true, ◌&&◌, List, [], ◌∷◌, ◌++◌, take, length, slice_index_or, Result, Ok, refl, sym, ◌∙◌, ap, arith}
use Rattle.std.proofs.lemmas.Bool.{and_from}
use Rattle.std.proofs.lemmas.List.{take_more}
use Rattle.std.proofs.Math.Nat.{pow-suc, pow-zero, div-eq_of_lt}
use Rattle.line_grammar.specs.Shapes.{digits, fixed_number, is_within}
use Rattle.line_grammar.specs.Tokens.{is_digit}
use Rattle.line_grammar.specs.inside.Reading.{behind, fits, read_numeral, read_shape}
use Rattle.line_grammar.specs.inside.Soundness.{are_ranges}
use Rattle.line_grammar.proofs.NumeralSteps.{digits_push, numeral_more}
use Rattle.line_grammar.proofs.ShapesNumerals.{are_all_of, digits_first, digits_less, digits_none, digit_is, within_below, within_fits}

-- so many first bytes are the digits of a number
pub record Spelled (front : List ℕ) (done n : ℕ) : Type 0 where
  pub small : n < 10 ^ done
  pub same : take done front ≡ digits done n

pub spelled_none : (front : List ℕ) → Spelled front 0 0
unfolding digits
spelled_none front = record { small = (omega (arith, pow-zero 10)); same = refl }

digit_less : (b : ℕ) → is_digit b ≡ true → b - 48 < 10
digit_less b h = grind arith

pub spelled_more : (front : List ℕ) (done n b d : ℕ) → Spelled front done n → done < length front → b ≡ slice_index_or front done 0 → is_digit b ≡ true → d ≡ b - 48 → Spelled front (done + 1) (10 * n + d)
spelled_more front done n b d s inside e h value =
    let less = digit_less b h in
    let count : done + 1 ≡ suc done = omega arith in
    record {
      small = (let p : 10 ^ (done + 1) ≡ 10 ^ suc done = ap (λ (k : ℕ). 10 ^ k) count in omega (arith, s.small, less, value, p, pow-suc 10 done));
      same =
          take_more front done 0 inside
          ∙ ap (λ (c : ℕ). take done front ++ (c ∷ [])) (sym e)
          ∙ ap (λ (l : List ℕ). l ++ (b ∷ [])) s.same
          ∙ digits_push done n b h
          ∙ ap (λ (k : ℕ). digits k (10 * n + (b - 48))) (sym count)
          ∙ ap (λ (x : ℕ). digits (done + 1) (10 * n + x)) (sym value);
    }

-- the digits of a number of the ranges are read
within_read : (more n : ℕ) (ranges : List (ℕ × ℕ)) (rest : List ℕ) → is_within ranges n ≡ true → read_numeral more ranges (n / 10 ^ more) (digits more n ++ rest) ≡ Ok (digits more n, rest)
unfolding read_numeral
within_read zero n ranges rest h =
    ap (λ (l : List ℕ). read_numeral zero ranges (n / 10 ^ zero) (l ++ rest)) (digits_none n)
    ∙ ap (λ (l : List ℕ). Ok (l, rest)) (sym (digits_none n))
within_read (suc more) n ranges rest h =
    let d = n / 10 ^ more % 10 in
    let next : 10 * (n / 10 ^ suc more) + (48 + d - 48) ≡ n / 10 ^ more = omega (arith, digits_less n more) in
    let fit : (is_digit (48 + d) && fits more ranges (n / 10 ^ more)) ≡ true = and_from (is_digit (48 + d)) (fits more ranges (n / 10 ^ more)) (digit_is (n / 10 ^ more)) (within_fits more ranges n h) in
    ap (λ (l : List ℕ). read_numeral (suc more) ranges (n / 10 ^ suc more) (l ++ rest)) (digits_first more n)
    ∙ numeral_more more ranges (n / 10 ^ suc more) (48 + d) (n / 10 ^ more) (digits more n ++ rest) (sym next) fit
    ∙ ap (λ (r : Result (List ℕ × List ℕ) ℕ). behind ((48 + d) ∷ []) r) (within_read more n ranges rest h)
    ∙ ap (λ (l : List ℕ). Ok (l, rest)) (sym (digits_first more n))

pub number_found : (width n : ℕ) (ranges : List (ℕ × ℕ)) (bytes rest : List ℕ) → are_ranges width ranges ≡ true → is_within ranges n ≡ true → bytes ≡ digits width n ++ rest
    → read_shape (fixed_number width ranges) bytes ≡ Ok (digits width n, rest)
unfolding read_shape
number_found width n ranges bytes rest a h e =
    let none : n / 10 ^ width ≡ 0 = div-eq_of_lt (within_below width ranges n (are_all_of width ranges a) h) in
    ap (λ (l : List ℕ). read_numeral width ranges 0 l) e
    ∙ ap (λ (m : ℕ). read_numeral width ranges m (digits width n ++ rest)) (sym none)
    ∙ within_read width n ranges rest h
