-- numbers of a range are read as far as their digits go
use Rattle.std.proofs.Common.{◌≡◌, ◌≢◌, ℕ, zero, suc, ◌+◌, ◌-◌, ◌*◌, ◌/◌, ◌%◌, ◌<◌, ◌≤◌, Bool, true, false, ◌==◌, ◌&&◌, nat_le, if◌then◌else◌, List, [], ◌∷◌, ◌++◌, length, Ok, Err, inl, inr, refl, sym, ◌∙◌, ap, subst, append_assoc, append-nil, arith, length-append}
use Rattle.std.specs.List.{list_all}
use Rattle.std.proofs.lemmas.Bool.{and_parts, and_from, leb-true, leb-false, le-leb, eqb-true, eqb-false, cases_lt}
use Rattle.std.proofs.lemmas.List.Folds.{list_all-append}
use Rattle.plain_laws.proofs.Lists.{split}
use Rattle.line_grammar.specs.Tokens.{free_number, is_digit, value_after, HasNoLeadingZero, IsNumber}
use Rattle.line_grammar.specs.inside.Reading.{reaches, goes_on, judged, judged_zero, read_digits, read_number}
use Rattle.line_grammar.proofs.Tokens.{Misses, TokenReads}

-- values
value_le : (n : ℕ) (digits : List ℕ) → n ≤ value_after n digits
value_le n [] = omega arith
value_le n (b ∷ digits) = let h = value_le (10 * n + (b - 48)) digits in omega (arith, h)

pub value_append : (n : ℕ) (a b : List ℕ) → value_after n (a ++ b) ≡ value_after (value_after n a) b
value_append n [] b = refl
value_append n (c ∷ a) b = value_append (10 * n + (c - 48)) a b

-- a digit is one of ten bytes
pub digit_bounds : (b : ℕ) → is_digit b ≡ true → (48 ≤ b) × (b ≤ 57)
digit_bounds b h = let k = and_parts (nat_le 48 b) (nat_le b 57) h in (leb-true 48 b k.0, leb-true b 57 k.1)

digit_of : (d : ℕ) → d < 10 → is_digit (48 + d) ≡ true
digit_of d h = and_from (nat_le 48 (48 + d)) (nat_le (48 + d) 57) (le-leb 48 (48 + d) (omega arith)) (le-leb (48 + d) 57 (omega arith))

all_append : (a b : List ℕ) → list_all is_digit a ≡ true → list_all is_digit b ≡ true → list_all is_digit (a ++ b) ≡ true
all_append a b h k = list_all-append is_digit a b ∙ and_from (list_all is_digit a) (list_all is_digit b) h k

all_parts : (a b : List ℕ) → list_all is_digit (a ++ b) ≡ true → (list_all is_digit a ≡ true) × (list_all is_digit b ≡ true)
all_parts a b h = and_parts (list_all is_digit a) (list_all is_digit b) (sym (list_all-append is_digit a b) ∙ h)

-- digits that go on to a number of the range are those that the test lets through
reach_step : (steps least most low high n : ℕ) (r : List ℕ) (t : Bool) → nat_le least high ≡ t
    → ((m : ℕ) (s : List ℕ) → 10 * low ≤ m → m ≤ 10 * high + 9 → list_all is_digit s ≡ true → least ≤ value_after m s → value_after m s ≤ most → reaches steps least most (10 * low) (10 * high + 9) ≡ true)
    → low ≤ n → n ≤ high → list_all is_digit r ≡ true → least ≤ value_after n r → value_after n r ≤ most
    → (if t then nat_le low most else reaches steps least most (10 * low) (10 * high + 9)) ≡ true
reach_step steps least most low high n r true e more above below digits a b = le-leb low most (omega (arith, value_le n r))
reach_step steps least most low high n [] false e more above below digits a b = absurd (omega (arith, leb-false least high e))
reach_step steps least most low high n (c ∷ r) false e more above below digits a b =
    let k = and_parts (is_digit c) (list_all is_digit r) digits in
    let d = digit_bounds c k.0 in
    more (10 * n + (c - 48)) r (omega arith) (omega (arith, d.0, d.1)) k.1 a b

reaches_from : (steps least most low high n : ℕ) (r : List ℕ) → low ≤ n → n ≤ high → list_all is_digit r ≡ true → least ≤ value_after n r → value_after n r ≤ most → reaches steps least most low high ≡ true
reaches_from zero least most low high n r above below digits a b = le-leb low most (omega (arith, value_le n r))
reaches_from (suc steps) least most low high n r above below digits a b =
    reach_step steps least most low high n r (nat_le least high) refl
    (λ m s. reaches_from steps least most (10 * low) (10 * high + 9) m s) above below digits a b

-- and only they
low_step : (steps least most low high : ℕ) (t : Bool) → (reaches steps least most (10 * low) (10 * high + 9) ≡ true → 10 * low ≤ most)
    → (if t then nat_le low most else reaches steps least most (10 * low) (10 * high + 9)) ≡ true → low ≤ most
low_step steps least most low high t more h = grind arith

pub reaches_low : (steps least most low high : ℕ) → reaches steps least most low high ≡ true → low ≤ most
reaches_low zero least most low high h = leb-true low most h
reaches_low (suc steps) least most low high h =
    low_step steps least most low high (nat_le least high) (reaches_low steps least most (10 * low) (10 * high + 9)) h

-- more digits that make a number of the range
record Rest (x least most : ℕ) : Type 0 where
  digits : List ℕ
  all : list_all is_digit digits ≡ true
  low : least ≤ value_after x digits
  high : value_after x digits ≤ most

-- digits that make this number
record Onto (x n : ℕ) : Type 0 where
  digits : List ℕ
  all : list_all is_digit digits ≡ true
  value : value_after x digits ≡ n

onto_more : (x low high : ℕ) → ((n : ℕ) → low ≤ n → n ≤ high → Onto x n) → (n : ℕ) → 10 * low ≤ n → n ≤ 10 * high + 9 → Onto x n
onto_more x low high onto n above below =
    let o = onto (n / 10) (omega arith) (omega arith) in
    let d : n % 10 < 10 = omega arith in
    let last = 48 + n % 10 in
    record {
      digits = o.digits ++ (last ∷ []);
      all = all_append o.digits (last ∷ []) o.all (and_from (is_digit last) true (digit_of (n % 10) d) refl);
      value = value_append x o.digits (last ∷ []) ∙ ap (λ (m : ℕ). 10 * m + (last - 48)) o.value ∙ (omega arith);
    }

within : (x least most low high : ℕ) → ((n : ℕ) → low ≤ n → n ≤ high → Onto x n) → low ≤ high → least ≤ most → least ≤ high → low ≤ most → Rest x least most
within x least most low high onto order range top bottom =
    elim (cases_lt low least) [
      | inl below ↦ (let o = onto least (omega arith) top in record { digits = o.digits; all = o.all; low = omega (arith, o.value); high = omega (arith, o.value) })
      | inr above ↦ (let o = onto low (omega arith) order in record { digits = o.digits; all = o.all; low = omega (arith, o.value); high = omega (arith, o.value) })
    ]

rest_step : (x steps least most low high : ℕ) (t : Bool) → nat_le least high ≡ t → ((n : ℕ) → low ≤ n → n ≤ high → Onto x n) → low ≤ high → least ≤ most
    → (((n : ℕ) → 10 * low ≤ n → n ≤ 10 * high + 9 → Onto x n) → reaches steps least most (10 * low) (10 * high + 9) ≡ true → Rest x least most)
    → (if t then nat_le low most else reaches steps least most (10 * low) (10 * high + 9)) ≡ true → Rest x least most
rest_step x steps least most low high true e onto order range more h = within x least most low high onto order range (leb-true least high e) (leb-true low most h)
rest_step x steps least most low high false e onto order range more h = more (onto_more x low high onto) h

rest_of : (x steps least most low high : ℕ) → ((n : ℕ) → low ≤ n → n ≤ high → Onto x n) → low ≤ high → least ≤ most → least ≤ high + steps → reaches steps least most low high ≡ true → Rest x least most
rest_of x zero least most low high onto order range fuel h = within x least most low high onto order range (omega arith) (leb-true low most h)
rest_of x (suc steps) least most low high onto order range fuel h =
    rest_step x steps least most low high (nat_le least high) refl onto order range
    (λ more k. rest_of x steps least most (10 * low) (10 * high + 9) more (omega arith) range (omega arith) k) h

-- the digits of a number that isn't 0, read so far
record IsRead (front : List ℕ) (x : ℕ) : Type 0 where
  top : ℕ
  tail : List ℕ
  list : front ≡ top ∷ tail
  leading : top ≢ 48
  digits : list_all is_digit front ≡ true
  value : value_after 0 front ≡ x
  positive : 0 < x

no_leading : (c : ℕ) (l : List ℕ) → c ≢ 48 → HasNoLeadingZero (c ∷ l)
no_leading c l h = grind arith

leads : (front : List ℕ) (x : ℕ) (more : List ℕ) → IsRead front x → HasNoLeadingZero (front ++ more)
leads front x more r = subst (λ (l : List ℕ). HasNoLeadingZero (l ++ more)) (sym r.list) (no_leading r.top (r.tail ++ more) r.leading)

value_on : (front : List ℕ) (x : ℕ) (more : List ℕ) → IsRead front x → value_after 0 (front ++ more) ≡ value_after x more
value_on front x more r = value_append 0 front more ∙ ap (λ (n : ℕ). value_after n more) r.value

begins_number : (least most : ℕ) (front : List ℕ) (x : ℕ) → least ≤ most → IsRead front x → goes_on least most x ≡ true → (rest : List ℕ) × IsNumber least most (front ++ rest)
unfolding goes_on
begins_number least most front x range r h =
    let onto : (n : ℕ) → x ≤ n → n ≤ x → Onto x n = λ n a b. record { digits = []; all = refl; value = (omega arith) } in
    let more = rest_of x least least most x x onto (omega arith) range (omega arith) h in
    let value = value_on front x more.digits r in (
      more.digits,
      record {
        digits = all_append front more.digits r.digits more.all;
        leading = leads front x more.digits r;
        low = omega (arith, value, more.low);
        high = omega (arith, value, more.high);
      },
    )

-- where a digit doesn't go on, no number does
not_digit : (least most b n : ℕ) → is_digit b ≡ true → goes_on least most n ≡ true → (is_digit b && goes_on least most n) ≡ false → ⊥
not_digit least most b n h k e = let both = and_from (is_digit b) (goes_on least most n) h k in absurd (cc)

never_on : (least most : ℕ) (front : List ℕ) (x b : ℕ) (more : List ℕ) → IsRead front x → (is_digit b && goes_on least most (10 * x + (b - 48))) ≡ false → IsNumber least most (front ++ (b ∷ more)) → ⊥
unfolding goes_on
never_on least most front x b more r e h =
    let digits = and_parts (is_digit b) (list_all is_digit more) (all_parts front (b ∷ more) h.digits).1 in
    let value = value_on front x (b ∷ more) r in
    let n = 10 * x + (b - 48) in
    not_digit least most b n digits.0 (reaches_from least least most n n n more (omega arith) (omega arith) digits.1 (omega (arith, value, h.low)) (omega (arith, value, h.high))) e

-- a number that goes no further
abbrev Ends : (least most : ℕ) (front back : List ℕ) → Type 0
Ends least most front back = (b : ℕ) (rest more : List ℕ) → back ≡ b ∷ rest → IsNumber least most (front ++ (b ∷ more)) → ⊥

judged_past : (least most : ℕ) (front back : List ℕ) → Ends least most front back → (p q rest t : List ℕ) → back ≡ t ++ q → length q < length back → p ≡ front ++ t → IsNumber least most (p ++ rest) → ⊥
judged_past least most front back ends p q rest [] e short f h = omega (arith, ap length e)
judged_past least most front back ends p q rest (y ∷ t) e short f h =
    ends y (t ++ q) (t ++ rest) e (subst (λ (l : List ℕ). IsNumber least most l) (ap (λ (l : List ℕ). l ++ rest) f ∙ append_assoc front (y ∷ t) rest) h)

judged_none : (least most : ℕ) (front back : List ℕ) (x : ℕ) → IsRead front x → x < least → Ends least most front back → (a s t : List ℕ) → a ≡ front ++ t → back ≡ t ++ s → IsNumber least most a → ⊥
judged_none least most front back x r below ends a s [] e f h =
    let same : a ≡ front = e ∙ append-nil front in
    let value : value_after 0 a ≡ x = ap (λ (l : List ℕ). value_after 0 l) same ∙ r.value in
    omega (arith, value, h.low)
judged_none least most front back x r below ends a s (y ∷ t) e f h = ends y (t ++ s) t f (subst (λ (l : List ℕ). IsNumber least most l) e h)

too_short : (least most : ℕ) (front a t : List ℕ) (x : ℕ) → IsRead front x → x < least → front ≡ a ++ t → IsNumber least most a → ⊥
too_short least most front a t x r below e h =
    let whole : value_after (value_after 0 a) t ≡ x = sym (value_append 0 a t) ∙ ap (λ (l : List ℕ). value_after 0 l) (sym e) ∙ r.value in
    omega (arith, whole, value_le (value_after 0 a) t, h.low)

judge : (least most : ℕ) (front back : List ℕ) (x : ℕ) (t : Bool) → nat_le least x ≡ t → least ≤ most → IsRead front x → goes_on least most x ≡ true → Ends least most front back
    → TokenReads (free_number least most) (front ++ back) (if t then Ok (front, back) else Err (length back))
unfolding goes_on
judge least most front back x true e range r h ends = record {
  list = refl;
  is_token = record {
    digits = r.digits;
    leading = subst HasNoLeadingZero (append-nil front) (leads front x [] r);
    low = (omega (arith, r.value, leb-true least x e));
    high = (omega (arith, r.value, reaches_low least least most x x h));
  };
  longer = ends;
}
judge least most front back x false e range r h ends = record {
  front = front;
  back = back;
  list = refl;
  left_is = refl;
  begins = begins_number least most front x range r h;
  past = λ p q rest f short k.
      elim (split p q front back (sym f)) [
        | inl m ↦ judged_past least most front back ends p q rest m.0 m.2 short m.1 k
        | inr m ↦ omega (arith, ap length m.3, length-append m.1 back)
      ];
  none = λ a s f k.
      elim (split a s front back (sym f)) [
        | inl m ↦ judged_none least most front back x r (leb-false least x e) ends a s m.0 m.1 m.2 k
        | inr m ↦ too_short least most front a (m.0 ∷ m.1) x r (leb-false least x e) m.2 k
      ];
}

-- one digit more
one_digit : (front : List ℕ) (x b : ℕ) → IsRead front x → is_digit b ≡ true → IsRead (front ++ (b ∷ [])) (10 * x + (b - 48))
one_digit front x b r h = record {
  top = r.top;
  tail = r.tail ++ (b ∷ []);
  list = ap (λ (l : List ℕ). l ++ (b ∷ [])) r.list;
  leading = r.leading;
  digits = all_append front (b ∷ []) r.digits (and_from (is_digit b) true h refl);
  value = value_on front x (b ∷ []) r;
  positive = (omega (arith, r.positive));
}

digits_step : (least most x b : ℕ) (front back : List ℕ) (t : Bool) → (is_digit b && goes_on least most (10 * x + (b - 48))) ≡ t → least ≤ most → IsRead front x → goes_on least most x ≡ true
    → (IsRead (front ++ (b ∷ [])) (10 * x + (b - 48)) → goes_on least most (10 * x + (b - 48)) ≡ true → TokenReads (free_number least most) ((front ++ (b ∷ [])) ++ back) (read_digits least most (10 * x + (b - 48)) (front ++ (b ∷ [])) back))
    → TokenReads (free_number least most) (front ++ (b ∷ back)) (if t then read_digits least most (10 * x + (b - 48)) (front ++ (b ∷ [])) back else judged least x front (b ∷ back))
digits_step least most x b front back true e range r h more =
    let k = and_parts (is_digit b) (goes_on least most (10 * x + (b - 48))) e in
    subst (λ (l : List ℕ). TokenReads (free_number least most) l (read_digits least most (10 * x + (b - 48)) (front ++ (b ∷ [])) back)) (append_assoc front (b ∷ []) back)
    (more (one_digit front x b r k.0) k.1)
digits_step least most x b front back false e range r h more =
    judge least most front (b ∷ back) x (nat_le least x) refl range r h
    (λ c rest on f k.
    let same : c ≡ b = cc in
    never_on least most front x b on r e (subst (λ (d : ℕ). IsNumber least most (front ++ (d ∷ on))) same k))

digits_read : (least most x : ℕ) (front back : List ℕ) → least ≤ most → IsRead front x → goes_on least most x ≡ true → TokenReads (free_number least most) (front ++ back) (read_digits least most x front back)
unfolding read_digits
digits_read least most x front [] range r h = judge least most front [] x (nat_le least x) refl range r h (λ c rest on (f : [] ≡ c ∷ rest) k. absurd (cc))
digits_read least most x front (b ∷ back) range r h =
    digits_step least most x b front back (is_digit b && goes_on least most (10 * x + (b - 48))) refl range r h
    (λ s k. digits_read least most (10 * x + (b - 48)) (front ++ (b ∷ [])) back range s k)

-- every number has digits
more_digits : (w : List ℕ) (d : ℕ) → HasNoLeadingZero w → 0 < value_after 0 w → HasNoLeadingZero (w ++ (d ∷ []))
more_digits w d h k = grind arith

record Numeral (n : ℕ) : Type 0 where
  digits : List ℕ
  all : list_all is_digit digits ≡ true
  leading : HasNoLeadingZero digits
  value : value_after 0 digits ≡ n

fixed_number : (steps n : ℕ) → n < steps → Numeral n
fixed_number zero n h = absurd (omega arith)
fixed_number (suc steps) n h =
    elim (cases_lt n 10) [
      | inl small ↦ record { digits = (48 + n) ∷ []; all = and_from (is_digit (48 + n)) true (digit_of n small) refl; leading = tt; value = omega arith }
      | inr large ↦
          let w = fixed_number steps (n / 10) (omega arith) in
          let d : n % 10 < 10 = omega arith in
          let last = 48 + n % 10 in
          record {
            digits = w.digits ++ (last ∷ []);
            all = all_append w.digits (last ∷ []) w.all (and_from (is_digit last) true (digit_of (n % 10) d) refl);
            leading = more_digits w.digits last w.leading (omega (arith, w.value));
            value = value_append 0 w.digits (last ∷ []) ∙ ap (λ (m : ℕ). 10 * m + (last - 48)) w.value ∙ (omega arith);
          }
    ]

pub some_number : (least most : ℕ) → least ≤ most → (bytes : List ℕ) × IsNumber least most bytes
some_number least most range =
    let w = fixed_number (suc least) least (omega arith) in
    (w.digits, record { digits = w.all; leading = w.leading; low = omega (arith, w.value); high = omega (arith, w.value) })

-- a byte with which no number begins
first_past : (least most b : ℕ) (bytes : List ℕ) → ((l : List ℕ) → IsNumber least most (b ∷ l) → ⊥) → (p q rest : List ℕ) → b ∷ bytes ≡ p ++ q → length q < suc (length bytes) → IsNumber least most (p ++ rest) → ⊥
first_past least most b bytes never [] q rest e short h = omega (arith, ap length e)
first_past least most b bytes never (c ∷ p) q rest e short h =
    let same : c ≡ b = cc in
    never (p ++ rest) (subst (λ (d : ℕ). IsNumber least most (d ∷ (p ++ rest))) same h)

first_none : (least most b : ℕ) (bytes : List ℕ) → ((l : List ℕ) → IsNumber least most (b ∷ l) → ⊥) → (a s : List ℕ) → b ∷ bytes ≡ a ++ s → IsNumber least most a → ⊥
first_none least most b bytes never a s e h = grind arith

first_never : (least most b : ℕ) (bytes : List ℕ) → least ≤ most → ((l : List ℕ) → IsNumber least most (b ∷ l) → ⊥) → Misses (free_number least most) (b ∷ bytes) (suc (length bytes))
first_never least most b bytes range never = record {
  front = [];
  back = b ∷ bytes;
  list = refl;
  left_is = refl;
  begins = some_number least most range;
  past = first_past least most b bytes never;
  none = first_none least most b bytes never;
}

-- no digit follows a 0
zero_alone : (least most : ℕ) (l : List ℕ) → (least ≡ 0 → ⊥) → IsNumber least most (48 ∷ l) → ⊥
zero_alone least most l h k = grind arith

zero_step : (least most b : ℕ) (bytes : List ℕ) (t : Bool) → (least == 0) ≡ t → b ≡ 48 → least ≤ most → TokenReads (free_number least most) (b ∷ bytes) (if t then Ok (48 ∷ [], bytes) else Err (suc (length bytes)))
zero_step least most b bytes true e h range =
    let none = eqb-true least 0 e in
    record {
      list = ap (λ (c : ℕ). c ∷ bytes) h;
      is_token = record { digits = refl; leading = tt; low = (omega (arith, none)); high = (omega arith) };
      longer = λ x rest more f k. k.leading refl;
    }
zero_step least most b bytes false e h range =
    first_never least most b bytes range
    (λ l k. zero_alone least most l (eqb-false least 0 e) (subst (λ (c : ℕ). IsNumber least most (c ∷ l)) h k))

no_first : (least most b : ℕ) (l : List ℕ) → (is_digit b && goes_on least most (b - 48)) ≡ false → IsNumber least most (b ∷ l) → ⊥
unfolding goes_on
no_first least most b l e h =
    let digits = and_parts (is_digit b) (list_all is_digit l) h.digits in
    let n = b - 48 in
    let same : 10 * 0 + n ≡ n = omega arith in
    let value : value_after (10 * 0 + n) l ≡ value_after n l = ap (λ (m : ℕ). value_after m l) same in
    not_digit least most b n digits.0 (reaches_from least least most n n n l (omega arith) (omega arith) digits.1 (omega (arith, value, h.low)) (omega (arith, value, h.high))) e

positive_digit : (b : ℕ) → 48 ≤ b → (b ≡ 48 → ⊥) → 0 < b - 48
positive_digit b above other = grind arith

first_step : (least most b : ℕ) (bytes : List ℕ) (t : Bool) → (is_digit b && goes_on least most (b - 48)) ≡ t → (b ≡ 48 → ⊥) → least ≤ most
    → TokenReads (free_number least most) (b ∷ bytes) (if t then read_digits least most (b - 48) (b ∷ []) bytes else Err (suc (length bytes)))
first_step least most b bytes true e other range =
    let k = and_parts (is_digit b) (goes_on least most (b - 48)) e in
    let d = digit_bounds b k.0 in
    digits_read least most (b - 48) (b ∷ []) bytes range
    (record {
      top = b;
      tail = [];
      list = refl;
      leading = other;
      digits = and_from (is_digit b) true k.0 refl;
      value = (omega arith);
      positive = positive_digit b d.0 other;
    }) k.1
first_step least most b bytes false e other range = first_never least most b bytes range (λ l k. no_first least most b l e k)

number_step : (least most b : ℕ) (bytes : List ℕ) (t : Bool) → (b == 48) ≡ t → least ≤ most
    → TokenReads (free_number least most) (b ∷ bytes) (if t then judged_zero least bytes else (if is_digit b && goes_on least most (b - 48) then read_digits least most (b - 48) (b ∷ []) bytes else Err (suc (length bytes))))
number_step least most b bytes true e range = zero_step least most b bytes (least == 0) refl (eqb-true b 48 e) range
number_step least most b bytes false e range = first_step least most b bytes (is_digit b && goes_on least most (b - 48)) refl (eqb-false b 48 e) range

none_here : (least most : ℕ) (a s : List ℕ) → [] ≡ a ++ s → IsNumber least most a → ⊥
none_here least most a s e h = grind arith

pub number_reads : (least most : ℕ) (bytes : List ℕ) → least ≤ most → TokenReads (free_number least most) bytes (read_number least most bytes)
unfolding read_number
number_reads least most [] range = record {
  front = [];
  back = [];
  list = refl;
  left_is = refl;
  begins = some_number least most range;
  past = λ p q rest e short h. omega arith;
  none = none_here least most;
}
number_reads least most (b ∷ bytes) range = number_step least most b bytes (b == 48) refl range
