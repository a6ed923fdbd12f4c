-- the numbers of ranges and their digits
use Rattle.std.proofs.Common.{◌≡◌, ℕ, zero, suc, ◌+◌, ◌-◌, ◌*◌, ◌/◌, ◌%◌, ◌^◌, ◌<◌, ◌≤◌, Bool, true, not, ◌&&◌, nat_le, List, [], ◌∷◌, ◌++◌, length, inl, inr, refl, sym, ◌∙◌, ap, subst, arith, length-append}
use Rattle.std.specs.List.{list_any, list_all}
use Rattle.std.proofs.lemmas.Bool.{and_parts, and_from, or_left, or_right, or_cases, leb-true, le-leb, cases_lt}
use Rattle.std.proofs.lemmas.List.Folds.{list_all-append}
use Rattle.std.proofs.lemmas.Nat.{le-div}
use Rattle.std.proofs.Math.Nat.{div-div-eq-div-mul, div-mul-le_self, pow-suc, pow-succ', pow-zero, div-eq_of_lt, div-one, div-le_self, mul-div_cancel, mul-le-mul_right}
use Rattle.line_grammar.specs.Shapes.{digits, is_within}
use Rattle.line_grammar.specs.Tokens.{is_digit}
use Rattle.line_grammar.specs.inside.Soundness.{are_ranges}
use Rattle.line_grammar.specs.inside.Reading.{fits}

-- powers of ten
pub power_positive : (k : ℕ) → 0 < 10 ^ k
power_positive zero = omega (arith, pow-zero 10)
power_positive (suc k) = let h = power_positive k in let e = pow-suc 10 k in omega (arith, h, e)

-- more digits write larger numbers
pub power_order : (a b : ℕ) → a ≤ b → 10 ^ a ≤ 10 ^ b
power_order a zero h = let e : a ≡ 0 = omega arith in omega (arith, ap (λ (k : ℕ). 10 ^ k) e)
power_order a (suc b) h =
    elim (cases_lt a (suc b)) [
      | inl less ↦ (let k = power_order a b (omega (arith, less)) in omega (arith, k, pow-suc 10 b))
      | inr more ↦ (let e : a ≡ suc b = omega arith in omega (arith, ap (λ (k : ℕ). 10 ^ k) e))
    ]

pub digits_less : (n k : ℕ) → n / 10 ^ k / 10 ≡ n / 10 ^ suc k
digits_less n k = div-div-eq-div-mul n (10 ^ k) 10 ∙ ap (λ (m : ℕ). n / m) (sym (pow-suc 10 k))

pub digits_later : (n k : ℕ) → n / 10 / 10 ^ k ≡ n / 10 ^ suc k
digits_later n k = div-div-eq-div-mul n 10 (10 ^ k) ∙ ap (λ (m : ℕ). n / m) (sym (pow-succ' 10 k))

pub no_digits_less : (n : ℕ) → n / 10 ^ 0 ≡ n
no_digits_less n = ap (λ (m : ℕ). n / m) (pow-zero 10) ∙ div-one n

div_order : (a b k : ℕ) → a ≤ b → a / 10 ^ k ≤ b / 10 ^ k
div_order a b k h = le-div (a / 10 ^ k) b (10 ^ k) (power_positive k) (omega (arith, div-mul-le_self a (10 ^ k)))

-- the first of the digits
pub digits_first : (more n : ℕ) → digits (suc more) n ≡ (48 + n / 10 ^ more % 10) ∷ digits more n
unfolding digits
digits_first zero n = ap (λ (m : ℕ). (48 + m % 10) ∷ []) (sym (no_digits_less n))
digits_first (suc more) n =
    ap (λ (l : List ℕ). l ++ (48 + n % 10) ∷ []) (digits_first more (n / 10))
    ∙ ap (λ (m : ℕ). (48 + m % 10) ∷ (digits more (n / 10) ++ (48 + n % 10) ∷ [])) (digits_later n more)

pub digits_none : (n : ℕ) → digits 0 n ≡ []
unfolding digits
digits_none n = refl

-- so many digits are so many bytes
pub digits_length : (width n : ℕ) → length (digits width n) ≡ width
unfolding digits
digits_length zero n = refl
digits_length (suc width) n =
    let h = digits_length width (n / 10) in
    omega (arith, length-append (digits width (n / 10)) ((48 + n % 10) ∷ []), h)

pub digit_is : (n : ℕ) → is_digit (48 + n % 10) ≡ true
digit_is n = grind arith

-- digits are digits all
pub digits_all : (width n : ℕ) → list_all is_digit (digits width n) ≡ true
unfolding digits
digits_all zero n = refl
digits_all (suc width) n =
    list_all-append is_digit (digits width (n / 10)) ((48 + n % 10) ∷ [])
    ∙ and_from (list_all is_digit (digits width (n / 10))) (is_digit (48 + n % 10) && true) (digits_all width (n / 10)) (and_from (is_digit (48 + n % 10)) true (digit_is n) refl)

-- each of these ranges has numbers, none of more digits
abbrev pub are_all : (width : ℕ) → List (ℕ × ℕ) → Bool
are_all width ranges = list_all (λ each. nat_le each.0 each.1 && not (nat_le (10 ^ width) each.1)) ranges

-- ranges that are lawful are lawful one by one
pub are_all_of : (width : ℕ) (ranges : List (ℕ × ℕ)) → are_ranges width ranges ≡ true → are_all width ranges ≡ true
are_all_of width ranges h = grind arith

-- the two facts of a range
pub range_facts : (width : ℕ) (range : ℕ × ℕ) → (nat_le range.0 range.1 && not (nat_le (10 ^ width) range.1)) ≡ true → (range.0 ≤ range.1) × (range.1 < 10 ^ width)
range_facts width range h = grind arith

pub within_below : (width : ℕ) (ranges : List (ℕ × ℕ)) (m : ℕ) → are_all width ranges ≡ true → is_within ranges m ≡ true → m < 10 ^ width
within_below width [] m h k = absurd (cc)
within_below width (range ∷ ranges) m h k =
    let all = and_parts (nat_le range.0 range.1 && not (nat_le (10 ^ width) range.1)) (are_all width ranges) h in
    elim (or_cases (nat_le range.0 m && nat_le m range.1) (is_within ranges m) k) [
      | inl here ↦
          let top = leb-true m range.1 (and_parts (nat_le range.0 m) (nat_le m range.1) here).1 in
          let below = (range_facts width range all.0).1 in
          omega (arith, top, below)
      | inr there ↦ within_below width ranges m all.1 there
    ]

-- there are numbers in these ranges
pub some_numeral : (width : ℕ) (ranges : List (ℕ × ℕ)) → are_ranges width ranges ≡ true → (n : ℕ) × (is_within ranges n ≡ true)
some_numeral width [] h = absurd (cc)
some_numeral width (range ∷ ranges) h =
    let all = and_parts (nat_le range.0 range.1 && not (nat_le (10 ^ width) range.1)) (are_all width ranges) h in
    let order = (range_facts width range all.0).0 in (
      range.0,
      or_left (nat_le range.0 range.0 && nat_le range.0 range.1) (is_within ranges range.0)
          (and_from (nat_le range.0 range.0) (nat_le range.0 range.1) (le-leb range.0 range.0 (omega arith)) (le-leb range.0 range.1 order)),
    )

-- a number of the ranges goes on from its front
pub within_fits : (more : ℕ) (ranges : List (ℕ × ℕ)) (m : ℕ) → is_within ranges m ≡ true → fits more ranges (m / 10 ^ more) ≡ true
unfolding fits
within_fits more [] m h = absurd (cc)
within_fits more (range ∷ ranges) m h =
    let front = m / 10 ^ more in
    let low = nat_le (range.0 / 10 ^ more) front in
    let high = nat_le front (range.1 / 10 ^ more) in
    let others = list_any (λ (each : ℕ × ℕ). nat_le (each.0 / 10 ^ more) front && nat_le front (each.1 / 10 ^ more)) ranges in
    elim (or_cases (nat_le range.0 m && nat_le m range.1) (is_within ranges m) h) [
      | inl here ↦
          let k = and_parts (nat_le range.0 m) (nat_le m range.1) here in
          let above = le-leb (range.0 / 10 ^ more) front (div_order range.0 m more (leb-true range.0 m k.0)) in
          let below = le-leb front (range.1 / 10 ^ more) (div_order m range.1 more (leb-true m range.1 k.1)) in
          or_left (low && high) others (and_from low high above below)
      | inr there ↦ or_right (low && high) others (within_fits more ranges m there)
    ]

-- a number of this range that begins so
range_onward : (low high n k : ℕ) → low ≤ high → low / 10 ^ k ≤ n → n ≤ high / 10 ^ k → (m : ℕ) × (low ≤ m) × (m ≤ high) × (m / 10 ^ k ≡ n)
range_onward low high n k order above below =
    let power = power_positive k in
    let top = div-mul-le_self high (10 ^ k) in
    elim (cases_lt low (n * 10 ^ k)) [
      | inl less ↦
          let most : n * 10 ^ k ≤ high / 10 ^ k * 10 ^ k = mul-le-mul_right (10 ^ k) below in
          (n * 10 ^ k, omega (arith, less), omega (arith, most, top), mul-div_cancel n power)
      | inr more ↦
          let least : n ≤ low / 10 ^ k = le-div n low (10 ^ k) power more in
          (low, omega arith, order, omega (arith, least))
    ]

-- the digits that go on from the digits of this number to a number of these ranges
abbrev pub Numbered : (more : ℕ) (ranges : List (ℕ × ℕ)) (n : ℕ) (bytes : List ℕ) → Type 0
Numbered more ranges n bytes = (m : ℕ) × (is_within ranges m ≡ true) × (m / 10 ^ more ≡ n) × (bytes ≡ digits more m)

onward : (width more : ℕ) (ranges : List (ℕ × ℕ)) (n : ℕ) → are_all width ranges ≡ true → fits more ranges n ≡ true → (m : ℕ) × (is_within ranges m ≡ true) × (m / 10 ^ more ≡ n)
unfolding fits
onward width more [] n h k = absurd (cc)
onward width more (range ∷ ranges) n h k =
    let all = and_parts (nat_le range.0 range.1 && not (nat_le (10 ^ width) range.1)) (are_all width ranges) h in
    let low = nat_le (range.0 / 10 ^ more) n in
    let high = nat_le n (range.1 / 10 ^ more) in
    let others = list_any (λ (each : ℕ × ℕ). nat_le (each.0 / 10 ^ more) n && nat_le n (each.1 / 10 ^ more)) ranges in
    elim (or_cases (low && high) others k) [
      | inl here ↦
          let both = and_parts low high here in
          let m = range_onward range.0 range.1 n more (range_facts width range all.0).0 (leb-true (range.0 / 10 ^ more) n both.0) (leb-true n (range.1 / 10 ^ more) both.1) in
          let is = and_from (nat_le range.0 m.0) (nat_le m.0 range.1) (le-leb range.0 m.0 m.1) (le-leb m.0 range.1 m.2) in
          (m.0, or_left (nat_le range.0 m.0 && nat_le m.0 range.1) (is_within ranges m.0) is, m.3)
      | inr there ↦
          let m = onward width more ranges n all.1 there in
          (m.0, or_right (nat_le range.0 m.0 && nat_le m.0 range.1) (is_within ranges m.0) m.1, m.2)
    ]

pub numbered_some : (width more : ℕ) (ranges : List (ℕ × ℕ)) (n : ℕ) → are_all width ranges ≡ true → fits more ranges n ≡ true → (bytes : List ℕ) × Numbered more ranges n bytes
numbered_some width more ranges n h k = let m = onward width more ranges n h k in (digits more m.0, (m.0, m.1, m.2, refl))

pub numbered_none : (more : ℕ) (ranges : List (ℕ × ℕ)) (n : ℕ) → Numbered (suc more) ranges n [] → ⊥
numbered_none more ranges n h = omega (arith, ap length h.3, digits_length (suc more) h.0)

-- numbers of ranges are their own fronts of no digit
pub numbered_start : (width : ℕ) (ranges : List (ℕ × ℕ)) (m : ℕ) (bytes : List ℕ) → are_all width ranges ≡ true → is_within ranges m ≡ true → bytes ≡ digits width m → Numbered width ranges 0 bytes
numbered_start width ranges m bytes h k e = (m, k, div-eq_of_lt (within_below width ranges m h k), e)

-- a digit more
last_digit : (b d : ℕ) → is_digit b ≡ true → d ≡ b - 48 → b ≡ 48 + d
last_digit b d h e = grind arith

digit_small : (b : ℕ) → is_digit b ≡ true → b - 48 < 10
digit_small b h = grind arith

pub numbered_more : (more : ℕ) (ranges : List (ℕ × ℕ)) (n b : ℕ) (bytes : List ℕ) → is_digit b ≡ true → Numbered more ranges (10 * n + (b - 48)) bytes → Numbered (suc more) ranges n (b ∷ bytes)
numbered_more more ranges n b bytes h k =
    let small = digit_small b h in
    let x = k.0 / 10 ^ more in
    let whole : x ≡ 10 * n + (b - 48) = k.2 in
    let front : x / 10 ≡ n = omega (arith, whole, small) in
    let last : x % 10 ≡ b - 48 = omega (arith, whole, small) in
    let first : b ≡ 48 + x % 10 = last_digit b (x % 10) h last in
    (k.0, k.1, sym (digits_less k.0 more) ∙ front, ap (λ (c : ℕ). c ∷ bytes) first ∙ ap (λ (l : List ℕ). (48 + x % 10) ∷ l) k.3 ∙ sym (digits_first more k.0))

-- what goes on with a byte
pub record IsNext (more : ℕ) (ranges : List (ℕ × ℕ)) (n b : ℕ) (bytes : List ℕ) : Type 0 where
  pub digit : is_digit b ≡ true
  pub goes_on : fits more ranges (10 * n + (b - 48)) ≡ true
  pub rest : Numbered more ranges (10 * n + (b - 48)) bytes

-- a number's digits begin with one after which the rest goes on
pub numbered_next : (more : ℕ) (ranges : List (ℕ × ℕ)) (n b : ℕ) (bytes : List ℕ) → Numbered (suc more) ranges n (b ∷ bytes) → IsNext more ranges n b bytes
numbered_next more ranges n b bytes h =
    let x = h.0 / 10 ^ more in
    let list : b ∷ bytes ≡ (48 + x % 10) ∷ digits more h.0 = h.3 ∙ digits_first more h.0 in
    let first : b ≡ 48 + x % 10 = cc in
    let rest : bytes ≡ digits more h.0 = cc in
    let front : x / 10 ≡ n = digits_less h.0 more ∙ h.2 in
    let whole : x ≡ 10 * n + (b - 48) = omega (arith, first, front) in
    record {
      digit = subst (λ (c : ℕ). is_digit c ≡ true) (sym first) (digit_is x);
      goes_on = subst (λ (m : ℕ). fits more ranges m ≡ true) whole (within_fits more ranges h.0 h.1);
      rest = (h.0, h.1, whole, rest);
    }

-- a number that has all its digits
pub fits_within : (ranges : List (ℕ × ℕ)) (n : ℕ) → fits 0 ranges n ≡ true → is_within ranges n ≡ true
unfolding fits
fits_within [] n h = absurd (cc)
fits_within (range ∷ ranges) n h =
    let low = nat_le (range.0 / 10 ^ 0) n in
    let high = nat_le n (range.1 / 10 ^ 0) in
    let others = list_any (λ (each : ℕ × ℕ). nat_le (each.0 / 10 ^ 0) n && nat_le n (each.1 / 10 ^ 0)) ranges in
    elim (or_cases (low && high) others h) [
      | inl here ↦
          let both = and_parts low high here in
          let above = subst (λ (m : ℕ). nat_le m n ≡ true) (no_digits_less range.0) both.0 in
          let below = subst (λ (m : ℕ). nat_le n m ≡ true) (no_digits_less range.1) both.1 in
          or_left (nat_le range.0 n && nat_le n range.1) (is_within ranges n) (and_from (nat_le range.0 n) (nat_le n range.1) above below)
      | inr there ↦ or_right (nat_le range.0 n && nat_le n range.1) (is_within ranges n) (fits_within ranges n there)
    ]

-- a front of a number of these ranges is no larger than they are
pub fits_below : (width more : ℕ) (ranges : List (ℕ × ℕ)) (n : ℕ) → are_ranges width ranges ≡ true → fits more ranges n ≡ true → n < 10 ^ width
fits_below width more ranges n h k =
    let all = are_all_of width ranges h in
    let m = onward width more ranges n all k in
    let below = within_below width ranges m.0 all m.1 in
    omega (arith, below, m.2, div-le_self m.0 (10 ^ more))
