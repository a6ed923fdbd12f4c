-- the steps of the reader of numbers in code
use Rattle.std.proofs.Common.{◌≡◌, ℕ, suc, ◌+◌, ◌-◌, ◌*◌, ◌<◌, ◌≤◌, Bool, true, false, ◌==◌, ◌&&◌, nat_le, if◌then◌else◌, List, [], ◌∷◌, ◌++◌, length, Ok, Err, refl, sym, ◌∙◌, ap, subst, arith}
use Rattle.std.proofs.lemmas.Bool.{le-leb, lt-leb, cond-true, cond-false, eq-eqb, ne_eqb}
use Rattle.line_grammar.specs.Tokens.{free_number, is_digit, value_after}
use Rattle.line_grammar.specs.inside.Reading.{reaches, goes_on, judged, judged_zero, read_digits, read_number, read_token}
use Rattle.line_grammar.proofs.Numbers.{reaches_low, value_append}

-- the test in code
pub reach_next : (r : Bool) (steps least most low high : ℕ) → high < least → least ≤ high + steps → r ≡ reaches steps least most low high
    → (x : ℕ) × (r ≡ reaches x least most (10 * low) (10 * high + 9)) × (least ≤ 10 * high + 9 + x)
reach_next r steps least most low high short fuel e = grind arith

pub reach_end : (steps least most low high : ℕ) → least ≤ high → reaches steps least most low high ≡ nat_le low most
reach_end steps least most low high long = grind arith

pub reach_all : (least most n steps low high : ℕ) → reaches least least most n n ≡ reaches steps least most low high → least ≤ high → nat_le low most ≡ goes_on least most n
unfolding goes_on
reach_all least most n steps low high e long = sym (e ∙ reach_end steps least most low high long)

pub reach_most : (least most n : ℕ) → goes_on least most n ≡ true → n ≤ most
unfolding goes_on
reach_most least most n h = reaches_low least least most n n h

-- the steps of the reader in code
pub judged_ok : (least n : ℕ) (front back : List ℕ) → least ≤ n → judged least n front back ≡ Ok (front, back)
judged_ok least n front back h = cond-true (nat_le least n) (Ok (front, back)) (Err (length back)) (le-leb least n h)

pub judged_err : (least n : ℕ) (front back : List ℕ) → n < least → judged least n front back ≡ Err (length back)
judged_err least n front back h = cond-false (nat_le least n) (Ok (front, back)) (Err (length back)) (lt-leb least n h)

pub digits_end : (least most n : ℕ) (front back : List ℕ) → length back ≡ 0 → read_digits least most n front back ≡ judged least n front back
unfolding read_digits
digits_end least most n front [] h = refl
digits_end least most n front (b ∷ back) h = absurd (omega arith)

pub digits_stop : (least most n b : ℕ) (front back rest : List ℕ) → rest ≡ b ∷ back → (is_digit b && goes_on least most (10 * n + (b - 48))) ≡ false → read_digits least most n front rest ≡ judged least n front rest
unfolding read_digits
digits_stop least most n b front back rest e h =
    ap (λ (l : List ℕ). read_digits least most n front l) e
    ∙ cond-false (is_digit b && goes_on least most (10 * n + (b - 48))) (read_digits least most (10 * n + (b - 48)) (front ++ (b ∷ [])) back) (judged least n front (b ∷ back)) h
    ∙ ap (λ (l : List ℕ). judged least n front l) (sym e)

pub digits_more : (least most n b next : ℕ) (front back rest : List ℕ) → rest ≡ b ∷ back → next ≡ 10 * n + (b - 48) → (is_digit b && goes_on least most next) ≡ true → read_digits least most n front rest ≡ read_digits least most next (front ++ (b ∷ [])) back
unfolding read_digits
digits_more least most n b next front back rest e f h =
    ap (λ (l : List ℕ). read_digits least most n front l) e
    ∙ cond-true (is_digit b && goes_on least most (10 * n + (b - 48))) (read_digits least most (10 * n + (b - 48)) (front ++ (b ∷ [])) back) (judged least n front (b ∷ back)) (subst (λ (m : ℕ). (is_digit b && goes_on least most m) ≡ true) f h)
    ∙ ap (λ (m : ℕ). read_digits least most m (front ++ (b ∷ [])) back) (sym f)

pub value_push : (n b next : ℕ) (front : List ℕ) → value_after 0 front ≡ n → next ≡ 10 * n + (b - 48) → value_after 0 (front ++ (b ∷ [])) ≡ next
value_push n b next front e f = value_append 0 front (b ∷ []) ∙ ap (λ (m : ℕ). 10 * m + (b - 48)) e ∙ sym f

-- digits that were read so far, from any digits before them
pub record Walked (least most first : ℕ) (bytes : List ℕ) (n : ℕ) (rest : List ℕ) : Type 0 where
  pub same : (front : List ℕ) → (all : List ℕ) × (read_digits least most first front bytes ≡ read_digits least most n all rest) × (value_after 0 front ≡ first → value_after 0 all ≡ n)

pub walked_none : (least most first : ℕ) (bytes : List ℕ) → Walked least most first bytes first bytes
walked_none least most first bytes = record { same = λ front. (front, refl, λ e. e) }

pub walked_more : (least most first n b next : ℕ) (bytes rest back : List ℕ) → Walked least most first bytes n rest → rest ≡ b ∷ back → next ≡ 10 * n + (b - 48) → (is_digit b && goes_on least most next) ≡ true → Walked least most first bytes next back
walked_more least most first n b next bytes rest back w e f h = record {
  same = λ front.
      let s = w.same front in
      (s.0 ++ (b ∷ []), s.1 ∙ digits_more least most n b next s.0 back rest e f h, λ v. value_push n b next s.0 (s.2 v) f);
}

-- where no digit goes on
pub Halts : (least most n : ℕ) (rest : List ℕ) → Type 0
Halts least most n rest = (all : List ℕ) → read_digits least most n all rest ≡ judged least n all rest

pub halts_end : (least most n : ℕ) (rest : List ℕ) → length rest ≡ 0 → Halts least most n rest
unfolding Halts
halts_end least most n rest h = λ all. digits_end least most n all rest h

pub halts_stop : (least most n b : ℕ) (back rest : List ℕ) → rest ≡ b ∷ back → (is_digit b && goes_on least most (10 * n + (b - 48))) ≡ false → Halts least most n rest
unfolding Halts
halts_stop least most n b back rest e h = λ all. digits_stop least most n b all back rest e h

pub walked_all : (least most first n : ℕ) (bytes rest : List ℕ) → Walked least most first bytes n rest → Halts least most n rest
    → (front : List ℕ) → (all : List ℕ) × (read_digits least most first front bytes ≡ judged least n all rest) × (value_after 0 front ≡ first → value_after 0 all ≡ n)
unfolding Halts
walked_all least most first n bytes rest w h front = let s = w.same front in (s.0, s.1 ∙ h s.0, s.2)

pub number_end : (least most : ℕ) (bytes : List ℕ) → length bytes ≡ 0 → read_token (free_number least most) bytes ≡ Err 0
unfolding read_token read_number
number_end least most [] h = refl
number_end least most (b ∷ bytes) h = absurd (omega arith)

zero_first : (least most b : ℕ) (bytes rest : List ℕ) → bytes ≡ b ∷ rest → b ≡ 48 → read_token (free_number least most) bytes ≡ judged_zero least rest
unfolding read_token read_number
zero_first least most b bytes rest e h =
    ap (read_number least most) e
    ∙ cond-true (b == 48) (judged_zero least rest) (if is_digit b && goes_on least most (b - 48) then read_digits least most (b - 48) (b ∷ []) rest else Err (suc (length rest))) (eq-eqb b 48 h)

pub number_zero : (least most b : ℕ) (bytes rest : List ℕ) → bytes ≡ b ∷ rest → b ≡ 48 → least ≡ 0 → read_token (free_number least most) bytes ≡ Ok (48 ∷ [], rest)
number_zero least most b bytes rest e h k =
    zero_first least most b bytes rest e h ∙ cond-true (least == 0) (Ok (48 ∷ [], rest)) (Err (suc (length rest))) (eq-eqb least 0 k)

pub number_no_zero : (least most b : ℕ) (bytes rest : List ℕ) → bytes ≡ b ∷ rest → b ≡ 48 → (least ≡ 0 → ⊥) → read_token (free_number least most) bytes ≡ Err (length bytes)
number_no_zero least most b bytes rest e h k =
    zero_first least most b bytes rest e h
    ∙ cond-false (least == 0) (Ok (48 ∷ [], rest)) (Err (suc (length rest))) (ne_eqb least 0 k)
    ∙ ap (λ (l : List ℕ). Err (length l)) (sym e)

other_first : (least most b : ℕ) (bytes rest : List ℕ) → bytes ≡ b ∷ rest → (b ≡ 48 → ⊥)
    → read_token (free_number least most) bytes ≡ (if is_digit b && goes_on least most (b - 48) then read_digits least most (b - 48) (b ∷ []) rest else Err (suc (length rest)))
unfolding read_token read_number
other_first least most b bytes rest e h =
    ap (read_number least most) e
    ∙ cond-false (b == 48) (judged_zero least rest) (if is_digit b && goes_on least most (b - 48) then read_digits least most (b - 48) (b ∷ []) rest else Err (suc (length rest))) (ne_eqb b 48 h)

from_zero : (d : ℕ) → 10 * 0 + d ≡ d
from_zero d = omega arith

pub number_none : (least most b : ℕ) (bytes rest : List ℕ) → bytes ≡ b ∷ rest → (b ≡ 48 → ⊥) → (is_digit b && goes_on least most (10 * 0 + (b - 48))) ≡ false → read_token (free_number least most) bytes ≡ Err (length bytes)
number_none least most b bytes rest e h k =
    other_first least most b bytes rest e h
    ∙ cond-false (is_digit b && goes_on least most (b - 48)) (read_digits least most (b - 48) (b ∷ []) rest) (Err (suc (length rest)))
    (subst (λ (n : ℕ). (is_digit b && goes_on least most n) ≡ false) (from_zero (b - 48)) k)
    ∙ ap (λ (l : List ℕ). Err (length l)) (sym e)

pub number_begun : (least most b next : ℕ) (bytes rest : List ℕ) → bytes ≡ b ∷ rest → (b ≡ 48 → ⊥) → next ≡ 10 * 0 + (b - 48) → (is_digit b && goes_on least most next) ≡ true
    → read_token (free_number least most) bytes ≡ read_digits least most next (b ∷ []) rest
number_begun least most b next bytes rest e h f k =
    let same : next ≡ b - 48 = f ∙ from_zero (b - 48) in
    other_first least most b bytes rest e h
    ∙ cond-true (is_digit b && goes_on least most (b - 48)) (read_digits least most (b - 48) (b ∷ []) rest) (Err (suc (length rest)))
    (subst (λ (n : ℕ). (is_digit b && goes_on least most n) ≡ true) same k)
    ∙ ap (λ (n : ℕ). read_digits least most n (b ∷ []) rest) (sym same)

-- the digits after the first one
abbrev Digits : (least most begun n : ℕ) (bytes rest : List ℕ) → Type 0
Digits least most begun n bytes rest =
    (front : List ℕ) → (all : List ℕ) × (read_digits least most begun front bytes ≡ judged least n all rest) × (value_after 0 front ≡ begun → value_after 0 all ≡ n)

pub number_low : (least most b next n : ℕ) (bytes back rest : List ℕ) → bytes ≡ b ∷ back → (b ≡ 48 → ⊥) → next ≡ 10 * 0 + (b - 48) → (is_digit b && goes_on least most next) ≡ true → Digits least most next n back rest → n < least
    → read_token (free_number least most) bytes ≡ Err (length rest)
number_low least most b next n bytes back rest e h f k d low =
    number_begun least most b next bytes back e h f k ∙ (d (b ∷ [])).1 ∙ judged_err least n (d (b ∷ [])).0 rest low

pub number_ok : (least most b next n : ℕ) (bytes back rest : List ℕ) → bytes ≡ b ∷ back → (b ≡ 48 → ⊥) → next ≡ 10 * 0 + (b - 48) → (is_digit b && goes_on least most next) ≡ true → Digits least most next n back rest → least ≤ n
    → (front : List ℕ) × (read_token (free_number least most) bytes ≡ Ok (front, rest)) × (value_after 0 front ≡ n)
number_ok least most b next n bytes back rest e h f k d high =
    let s = d (b ∷ []) in
    (s.0, number_begun least most b next bytes back e h f k ∙ s.1 ∙ judged_ok least n s.0 rest high, s.2 (sym f))
