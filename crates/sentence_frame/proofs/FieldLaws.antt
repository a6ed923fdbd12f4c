-- the law of each kind of field: between texts that its shape accepts and values
use Rattle.std.proofs.Common.{◌≡◌, ℕ, zero, suc, ◌+◌, ◌-◌, ◌*◌, ◌/◌, ◌%◌, ◌^◌, ◌<◌, ◌≤◌, Bool, true, false, ◌&&◌, nat_eq, nat_lt, nat_le, List, [], ◌∷◌, ◌++◌, length, get_or, take, drop, Option, Some, None, IfSome, refl, sym, ◌∙◌, ap, arith, inl, inr, length-take}
use Rattle.std.specs.List.{list_all}
use Rattle.std.proofs.lemmas.Bool.{and_parts, and_from, or_cases, or_right, eqb-true, eq-eqb, leb-true, le-leb, ltb-true, lt-ltb, false≢true}
use Rattle.std.proofs.lemmas.List.{take-append-drop, drop_all, length-map}
use Rattle.std.proofs.lemmas.List.Folds.{list_all-append}
use Rattle.std.proofs.Math.Seq.{drop-cons}
use Rattle.line_grammar.specs.Tokens.{is_digit, value_after}
use Rattle.line_grammar.proofs.Digits.{value_of_digits}
use Rattle.line_grammar.proofs.DigitSteps.{value_push}
use Rattle.line_grammar.proofs.ShapesNumerals.{digits_length, digits_all}
use Rattle.line_grammar.proofs.Numbers.{digit_bounds}
use Rattle.sentence_frame.specs.Shapes as shape
use Rattle.sentence_frame.specs.Shapes.{Shape, accepts, are_digits, is_among, is_nothing, number_of, digits_of}
use Rattle.sentence_frame.specs.Texts.{digits, digit_text, perhaps_text, AreDigits, IsDigits, IsUpToDigits}
use Rattle.sentence_frame.specs.inside.Fields.{perhaps}
use Rattle.sentence_frame.proofs.Heads.{passes_at}

pub record IsKind {V : Type 0} (shape : Shape) (text : V → List ℕ) (value : List ℕ → V) (Fits : V → Type 0) : Type 0 where
  pub shown : (v : V) → Fits v → accepts shape (text v) ≡ true
  pub back : (v : V) → Fits v → value (text v) ≡ v
  pub fits : (t : List ℕ) → accepts shape t ≡ true → Fits (value t)
  pub again : (t : List ℕ) → accepts shape t ≡ true → text (value t) ≡ t

-- a list as its front and its last element
front_last : (n : ℕ) (t : List ℕ) → length t ≡ suc n → t ≡ take n t ++ get_or t n 0 ∷ []
front_last n t h =
    let last : drop n t ≡ get_or t n 0 ∷ drop (suc n) t = drop-cons t n 0 (omega (arith, h)) in
    let none : drop (suc n) t ≡ [] = drop_all (suc n) t (omega (arith, h)) in
    sym (take-append-drop n t) ∙ ap (λ (l : List ℕ). take n t ++ l) (last ∙ ap (λ (l : List ℕ). get_or t n 0 ∷ l) none)

digits_again : (width : ℕ) (t : List ℕ) → length t ≡ width → list_all is_digit t ≡ true → digits width (value_after 0 t) ≡ t
unfolding digits
digits_again zero [] h all = refl
digits_again zero (b ∷ t) h all = absurd (omega (arith, h))
digits_again (suc width) t h all =
    let front = take width t in
    let b = get_or t width 0 in
    let parts : t ≡ front ++ b ∷ [] = front_last width t h in
    let digit = digit_bounds b (passes_at is_digit t width (omega (arith, h)) all) in
    let both = and_parts (list_all is_digit front) (is_digit b && true)
    (sym (list_all-append is_digit front (b ∷ [])) ∙ ap (λ (l : List ℕ). list_all is_digit l) (sym parts) ∙ all) in
    let n = value_after 0 front in
    let value : value_after 0 t ≡ 10 * n + (b - 48) = ap (λ (l : List ℕ). value_after 0 l) parts ∙ value_push n b (10 * n + (b - 48)) front refl refl in
    let quotient : value_after 0 t / 10 ≡ n = omega (arith, value, digit) in
    let last : 48 + value_after 0 t % 10 ≡ b = omega (arith, value, digit) in
    let front_again : digits width n ≡ front = digits_again width front (omega (arith, h, length-take width t)) both.0 in
    ap (λ (m : ℕ). digits width m ++ (48 + value_after 0 t % 10) ∷ []) quotient
    ∙ ap (λ (l : List ℕ). l ++ (48 + value_after 0 t % 10) ∷ []) front_again
    ∙ ap (λ (c : ℕ). front ++ c ∷ []) last ∙ sym parts

are_digits_from : (width n : ℕ) → are_digits width (digits width n) ≡ true
are_digits_from width n =
    and_from (nat_eq (length (digits width n)) width) (list_all is_digit (digits width n))
    (eq-eqb (length (digits width n)) width (digits_length width n)) (digits_all width n)

record AreDigitsFacts (width : ℕ) (t : List ℕ) : Type 0 where
  long : length t ≡ width
  all : list_all is_digit t ≡ true

are_digits_facts : (width : ℕ) (t : List ℕ) → are_digits width t ≡ true → AreDigitsFacts width t
are_digits_facts width t h = grind arith

-- numbers in so many digits
pub number_kind : (width most : ℕ) → most < 10 ^ width → IsKind (shape.number width most) (digits width) number_of (λ n. n ≤ most)
unfolding accepts
number_kind width most room = record {
  shown = λ n h.
      and_from (are_digits width (digits width n)) (nat_le (number_of (digits width n)) most)
      (are_digits_from width n)
      (le-leb (number_of (digits width n)) most (omega (arith, value_of_digits width n (omega (arith, h, room)), h)));
  back = λ n h. value_of_digits width n (omega (arith, h, room));
  fits = λ t h. leb-true (number_of t) most (and_parts (are_digits width t) (nat_le (number_of t) most) h).1;
  again = λ t h.
      let k = are_digits_facts width t (and_parts (are_digits width t) (nat_le (number_of t) most) h).0 in
      digits_again width t k.long k.all;
}

-- two digits of one of these numbers
abbrev pub are_below : ℕ → List ℕ → Bool
are_below most numbers = list_all (λ n. nat_lt n most) numbers

among_below : (most : ℕ) (numbers : List ℕ) (n : ℕ) → are_below most numbers ≡ true → is_among numbers n ≡ true → n < most
among_below most [] n all h = absurd (false≢true h)
among_below most (m ∷ numbers) n all h =
    let both = and_parts (nat_lt m most) (are_below most numbers) all in
    elim (or_cases (nat_eq m n) (is_among numbers n) h) [
      | inl here ↦ (let e : m ≡ n = eqb-true m n here in let less = ltb-true m most both.0 in omega (arith, e, less))
      | inr there ↦ among_below most numbers n both.1 there
    ]

-- a code of two digits is written and read back
pub code_kind : (numbers : List ℕ) → are_below 100 numbers ≡ true → IsKind (shape.code numbers) (digits 2) number_of (λ n. is_among numbers n ≡ true)
unfolding accepts
code_kind numbers all = record {
  shown = λ n h.
      let e : number_of (digits 2 n) ≡ n = value_of_digits 2 n (among_below 100 numbers n all h) in
      and_from (are_digits 2 (digits 2 n)) (is_among numbers (number_of (digits 2 n)))
      (are_digits_from 2 n) (ap (λ (m : ℕ). is_among numbers m) e ∙ h);
  back = λ n h. value_of_digits 2 n (among_below 100 numbers n all h);
  fits = λ t h. (and_parts (are_digits 2 t) (is_among numbers (number_of t)) h).1;
  again = λ t h.
      let k = are_digits_facts 2 t (and_parts (are_digits 2 t) (is_among numbers (number_of t)) h).0 in
      digits_again 2 t k.long k.all;
}

-- digits one by one
abbrev is_value : ℕ → Bool
is_value d = nat_lt d 10

value_digit : (d : ℕ) → is_value d ≡ true → is_digit (48 + d) ≡ true
value_digit d h = grind arith

text_digits : (values : List ℕ) → AreDigits values → list_all is_digit (digit_text values) ≡ true
text_digits [] h = refl
text_digits (d ∷ values) h =
    let both = and_parts (is_value d) (list_all is_value values) h in
    and_from (is_digit (48 + d)) (list_all is_digit (digit_text values)) (value_digit d both.0) (text_digits values both.1)

values_back : (values : List ℕ) → digits_of (digit_text values) ≡ values
values_back [] = refl
values_back (d ∷ values) =
    let e : 48 + d - 48 ≡ d = omega arith in
    ap (λ (c : ℕ). c ∷ digits_of (digit_text values)) e ∙ ap (λ (l : List ℕ). d ∷ l) (values_back values)

values_digits : (t : List ℕ) → list_all is_digit t ≡ true → AreDigits (digits_of t)
values_digits [] h = refl
values_digits (b ∷ t) h =
    let both = and_parts (is_digit b) (list_all is_digit t) h in
    let range = digit_bounds b both.0 in
    and_from (is_value (b - 48)) (list_all is_value (digits_of t)) (lt-ltb (b - 48) 10 (omega (arith, range))) (values_digits t both.1)

text_again : (t : List ℕ) → list_all is_digit t ≡ true → digit_text (digits_of t) ≡ t
text_again [] h = refl
text_again (b ∷ t) h =
    let both = and_parts (is_digit b) (list_all is_digit t) h in
    let range = digit_bounds b both.0 in
    let e : 48 + (b - 48) ≡ b = omega (arith, range) in
    ap (λ (c : ℕ). c ∷ digit_text (digits_of t)) e ∙ ap (λ (l : List ℕ). b ∷ l) (text_again t both.1)

pub text_length : (values : List ℕ) → length (digit_text values) ≡ length values
text_length values = simp length-map

values_length : (t : List ℕ) → length (digits_of t) ≡ length t
values_length t = simp length-map

-- so many digits are written and read back
pub digits_kind : (width : ℕ) → IsKind (shape.digits width) digit_text digits_of (IsDigits width)
unfolding accepts
digits_kind width = record {
  shown = λ v h.
      and_from (nat_eq (length (digit_text v)) width) (list_all is_digit (digit_text v))
      (eq-eqb (length (digit_text v)) width (text_length v ∙ h.long)) (text_digits v h.digits);
  back = λ v h. values_back v;
  fits = λ t h. let k = are_digits_facts width t h in record { long = values_length t ∙ k.long; digits = values_digits t k.all };
  again = λ t h. text_again t (are_digits_facts width t h).all;
}

-- up to so many digits are written and read back
pub up_to_kind : (width : ℕ) → IsKind (shape.at_most width) digit_text digits_of (IsUpToDigits width)
unfolding accepts
up_to_kind width = record {
  shown = λ v h.
      and_from (nat_le (length (digit_text v)) width) (list_all is_digit (digit_text v))
      (le-leb (length (digit_text v)) width (omega (arith, text_length v, h.long))) (text_digits v h.digits);
  back = λ v h. values_back v;
  fits = λ t h.
      let k = and_parts (nat_le (length t) width) (list_all is_digit t) h in
      let short = leb-true (length t) width k.0 in
      record { long = omega (arith, values_length t, short); digits = values_digits t k.1 };
  again = λ t h. text_again t (and_parts (nat_le (length t) width) (list_all is_digit t) h).1;
}

-- what may be missing
perhaps_shown : {V : Type 0} (s : Shape) (text : V → List ℕ) (value : List ℕ → V) (Fits : V → Type 0) → IsKind s text value Fits → (o : Option V) → IfSome o Fits → accepts (shape.maybe s) (perhaps_text text o) ≡ true
unfolding accepts
perhaps_shown s text value Fits k None h = refl
perhaps_shown s text value Fits k (Some v) h = or_right (is_nothing (text v)) (accepts s (text v)) (k.shown v h)

perhaps_back : {V : Type 0} (s : Shape) (text : V → List ℕ) (value : List ℕ → V) (Fits : V → Type 0) → IsKind s text value Fits → accepts s [] ≡ false → (o : Option V) → IfSome o Fits → perhaps value (perhaps_text text o) ≡ o
perhaps_back s text value Fits k none o h = grind arith

perhaps_fits : {V : Type 0} (s : Shape) (text : V → List ℕ) (value : List ℕ → V) (Fits : V → Type 0) → IsKind s text value Fits → (t : List ℕ) → accepts (shape.maybe s) t ≡ true → IfSome (perhaps value t) Fits
unfolding accepts
perhaps_fits s text value Fits k [] h = tt
perhaps_fits s text value Fits k (b ∷ t) h = k.fits (b ∷ t) h

perhaps_again : {V : Type 0} (s : Shape) (text : V → List ℕ) (value : List ℕ → V) (Fits : V → Type 0) → IsKind s text value Fits → (t : List ℕ) → accepts (shape.maybe s) t ≡ true → perhaps_text text (perhaps value t) ≡ t
unfolding accepts
perhaps_again s text value Fits k [] h = refl
perhaps_again s text value Fits k (b ∷ t) h = k.again (b ∷ t) h

-- a field that may be empty is written and read back
pub maybe_kind : {V : Type 0} (s : Shape) (text : V → List ℕ) (value : List ℕ → V) (Fits : V → Type 0) → IsKind s text value Fits → accepts s [] ≡ false → IsKind (shape.maybe s) (perhaps_text text) (perhaps value) (λ o. IfSome o Fits)
maybe_kind s text value Fits k none = record {
  shown = perhaps_shown s text value Fits k;
  back = perhaps_back s text value Fits k none;
  fits = perhaps_fits s text value Fits k;
  again = perhaps_again s text value Fits k;
}

-- two values of one text are one
pub one_value : {V : Type 0} (s : Shape) (text : V → List ℕ) (value : List ℕ → V) (Fits : V → Type 0) → IsKind s text value Fits → (v w : V) → Fits v → Fits w → text v ≡ text w → v ≡ w
one_value s text value Fits k v w hv hw e = sym (k.back v hv) ∙ ap value e ∙ k.back w hw

-- the letters of which one is there: nothing else than this letter is accepted
pub letter_text : (letters t : List ℕ) → accepts (shape.letter letters) t ≡ true → (t ≡ get_or t 0 0 ∷ []) × (is_among letters (get_or t 0 0) ≡ true)
unfolding accepts
letter_text letters [] h = absurd (false≢true h)
letter_text letters (b ∷ []) h = (refl, h)
letter_text letters (b ∷ c ∷ t) h = absurd (let e = eqb-true (length (b ∷ c ∷ t)) 1 (and_parts (nat_eq (length (b ∷ c ∷ t)) 1) (is_among letters b) h).0 in omega (arith, e))
