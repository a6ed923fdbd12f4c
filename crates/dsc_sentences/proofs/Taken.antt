-- the values of fields that have as many digits as they mostly have
use Rattle.std.proofs.Common.{◌≡◌, ℕ, suc, ◌+◌, ◌-◌, ◌*◌, ◌≤◌, Bool, true, false, ◌&&◌, nat_eq, nat_le, List, [], ◌∷◌, length, get_or, Some, Ok, Err, refl, sym, ◌∙◌, ap, arith}
use Rattle.std.specs.List.{list_all}
use Rattle.std.proofs.lemmas.Bool.{and_parts, and_from, or_right, le-leb, eqb-true, false≢true}
use Rattle.arrayvec.specs.ArrayVec.{ArrayVec}
use Rattle.line_grammar.specs.Tokens.{is_digit}
use Rattle.line_grammar.proofs.Numbers.{digit_bounds}
use Rattle.sentence_frame.specs.declared.refusals.SentenceRefusal.TheVariants.{Field}
use Rattle.sentence_frame.specs.Shapes as shape
use Rattle.sentence_frame.specs.Shapes.{Shape, accepts, are_digits, is_among, is_nothing, number_of, digits_of}
use Rattle.sentence_frame.specs.inside.Fields.{field, perhaps}

-- a text of some digits is there
digits_there : (width : ℕ) (t : List ℕ) → are_digits (suc width) t ≡ true → is_nothing t ≡ false
digits_there width t h = grind arith

perhaps_there : {A : Type 0} (value : List ℕ → A) (t : List ℕ) → is_nothing t ≡ false → perhaps value t ≡ Some (value t)
perhaps_there value t h = rw h refl

-- the number that two digits make
pub two_value : (t ds : List ℕ) → are_digits 2 t ≡ true → ds ≡ digits_of t
    → (10 * get_or ds 0 0 + get_or ds 1 0 ≡ number_of t) × (get_or ds 0 0 ≤ 9) × (get_or ds 1 0 ≤ 9)
two_value [] ds h e = absurd (false≢true h)
two_value (a ∷ []) ds h e = absurd (false≢true h)
two_value (a ∷ b ∷ c ∷ t) ds h e =
    let long = eqb-true (length (a ∷ b ∷ c ∷ t)) 2 (and_parts (nat_eq (length (a ∷ b ∷ c ∷ t)) 2) (list_all is_digit (a ∷ b ∷ c ∷ t)) h).0 in
    absurd (omega (arith, long))
two_value (a ∷ b ∷ []) ds h e =
    let k1 = and_parts (is_digit a) (is_digit b && true) h in
    let d1 = digit_bounds a k1.0 in
    let d2 = digit_bounds b (and_parts (is_digit b) true k1.1).0 in
    let e1 : get_or ds 0 0 ≡ a - 48 = ap (λ (l : List ℕ). get_or l 0 0) e in
    let e2 : get_or ds 1 0 ≡ b - 48 = ap (λ (l : List ℕ). get_or l 1 0) e in
    (omega arith, omega arith, omega arith)

-- the number that four digits make
pub four_value : (t ds : List ℕ) → are_digits 4 t ≡ true → ds ≡ digits_of t
    → (1000 * get_or ds 0 0 + 100 * get_or ds 1 0 + 10 * get_or ds 2 0 + get_or ds 3 0 ≡ number_of t)
    × (get_or ds 0 0 ≤ 9) × (get_or ds 1 0 ≤ 9) × (get_or ds 2 0 ≤ 9) × (get_or ds 3 0 ≤ 9)
four_value [] ds h e = absurd (false≢true h)
four_value (a ∷ []) ds h e = absurd (false≢true h)
four_value (a ∷ b ∷ []) ds h e = absurd (false≢true h)
four_value (a ∷ b ∷ c ∷ []) ds h e = absurd (false≢true h)
four_value (a ∷ b ∷ c ∷ d ∷ f ∷ t) ds h e =
    let long = eqb-true (length (a ∷ b ∷ c ∷ d ∷ f ∷ t)) 4 (and_parts (nat_eq (length (a ∷ b ∷ c ∷ d ∷ f ∷ t)) 4) (list_all is_digit (a ∷ b ∷ c ∷ d ∷ f ∷ t)) h).0 in
    absurd (omega (arith, long))
four_value (a ∷ b ∷ c ∷ d ∷ []) ds h e =
    let k1 = and_parts (is_digit a) (is_digit b && (is_digit c && (is_digit d && true))) h in
    let k2 = and_parts (is_digit b) (is_digit c && (is_digit d && true)) k1.1 in
    let k3 = and_parts (is_digit c) (is_digit d && true) k2.1 in
    let d1 = digit_bounds a k1.0 in
    let d2 = digit_bounds b k2.0 in
    let d3 = digit_bounds c k3.0 in
    let d4 = digit_bounds d (and_parts (is_digit d) true k3.1).0 in
    let e1 : get_or ds 0 0 ≡ a - 48 = ap (λ (l : List ℕ). get_or l 0 0) e in
    let e2 : get_or ds 1 0 ≡ b - 48 = ap (λ (l : List ℕ). get_or l 1 0) e in
    let e3 : get_or ds 2 0 ≡ c - 48 = ap (λ (l : List ℕ). get_or l 2 0) e in
    let e4 : get_or ds 3 0 ≡ d - 48 = ap (λ (l : List ℕ). get_or l 3 0) e in
    (omega arith, omega arith, omega arith, omega arith, omega arith)

pub taken : {A : Type 0} (k : ℕ) (s : Shape) (value : List ℕ → A) (t : List ℕ) (v : A) → accepts s t ≡ true → v ≡ value t → Ok v ≡ field k s value t
unfolding field
taken k s value t v h e = ap Ok e ∙ rw h refl

pub taken_not : {A : Type 0} (k : ℕ) (s : Shape) (value : List ℕ → A) (t : List ℕ) → accepts s t ≡ false → Err (Field k) ≡ field k s value t
unfolding field
taken_not k s value t h = rw h refl

pub taken_perhaps : {A : Type 0} (k width : ℕ) (s : Shape) (value : List ℕ → A) (t : List ℕ) (v : A) → are_digits (suc width) t ≡ true → accepts s t ≡ true → v ≡ value t
    → Ok (Some v) ≡ field k (shape.maybe s) (perhaps value) t
unfolding accepts
taken_perhaps k width s value t v h there e =
    taken k (shape.maybe s) (perhaps value) t (Some v) (or_right (is_nothing t) (accepts s t) there)
    (ap Some e ∙ sym (perhaps_there value t (digits_there width t h)))

pub taken_perhaps_not : {A : Type 0} (k width : ℕ) (s : Shape) (value : List ℕ → A) (t : List ℕ) → are_digits (suc width) t ≡ true → accepts s t ≡ false
    → Err (Field k) ≡ field k (shape.maybe s) (perhaps value) t
unfolding accepts
taken_perhaps_not k width s value t h not = taken_not k (shape.maybe s) (perhaps value) t (rw (digits_there width t h, not) refl)

pub is_code : (numbers t : List ℕ) (n : ℕ) (b : Bool) → are_digits 2 t ≡ true → n ≡ number_of t → is_among numbers n ≡ b → accepts (shape.code numbers) t ≡ b
unfolding accepts
is_code numbers t n b h e among = rw h (ap (is_among numbers) (sym e) ∙ among)

pub is_number : (width most : ℕ) (t : List ℕ) → are_digits width t ≡ true → number_of t ≤ most → accepts (shape.number width most) t ≡ true
unfolding accepts
is_number width most t h low = and_from (are_digits width t) (nat_le (number_of t) most) h (le-leb (number_of t) most low)

pub is_ten : (t : List ℕ) → are_digits 10 t ≡ true → accepts (shape.digits 10) t ≡ true
unfolding accepts
is_ten t h = h

pub taken_place : (k : ℕ) (t : List ℕ) (v : ArrayVec ℕ) → are_digits 10 t ≡ true → v.items ≡ digits_of t
    → Ok v ≡ field k (shape.at_most 16) (λ (t : List ℕ). let r : ArrayVec ℕ = record { items = digits_of t } in r) t
unfolding accepts
taken_place k t v h e =
    let both = and_parts (nat_eq (length t) 10) (list_all is_digit t) h in
    let long = eqb-true (length t) 10 both.0 in
    taken k (shape.at_most 16) (λ (t : List ℕ). let r : ArrayVec ℕ = record { items = digits_of t } in r) t v
    (and_from (nat_le (length t) 16) (list_all is_digit t) (le-leb (length t) 16 (omega (arith, long))) both.1)
    (ap (λ (l : List ℕ). let r : ArrayVec ℕ = record { items = l } in r) e)
