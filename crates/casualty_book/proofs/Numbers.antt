-- digits as one number
use Rattle.std.proofs.Common.{◌≡◌, ℕ, zero, suc, ◌+◌, ◌-◌, ◌*◌, ◌/◌, ◌%◌, ◌^◌, ◌<◌, ◌≤◌, ◌==◌, ◌⊎◌, Bool, List, [], ◌∷◌, length, arith, refl, sym, ap, subst, ◌∙◌, inl, inr, cond, Ordering, Less, Equal, Greater, nat_cmp, if◌then◌else◌, mul-div_cancel, pow-suc, mul-le-mul_right, mul-lt-mul_of_pos_right, lt-ltb, ltb-true, ne_eqb, eq-eqb, add-sub_cancel, zero-mul, mul-one, mul_assoc, mul_right_comm, add-mul, get_or, drop, drop-cons}
use Rattle.std.specs.Cmp.Lexicographic.{slice_cmp}
use Rattle.std.specs.Ordering.{ordering_then}
use Rattle.std.proofs.lemmas.Bool.{and_parts}
use Rattle.std.proofs.lemmas.Nat.{div-mul-add, mod-mul-add}
use Rattle.sentence_frame.specs.Texts.{AreDigits, digit_text}
use Rattle.casualty_book.specs.Texts.{digits_or_hyphen}
use Rattle.casualty_book.specs.inside.Packing.{number_from, number_of, digits_in, digits_of}

-- the number of so many places
abbrev pub placed : ℕ → List ℕ → ℕ
placed n ds = number_from (16 ^ n / 16) ds

-- the weight of the first of so many places
weight_is : (n : ℕ) → 16 ^ suc n / 16 ≡ 16 ^ n
weight_is n = ap (λ (w : ℕ). w / 16) (pow-suc 16 n) ∙ mul-div_cancel (16 ^ n) (omega arith)

placed_more : (n d : ℕ) (ds : List ℕ) → placed (suc n) (d ∷ ds) ≡ (d + 1) * 16 ^ n + placed n ds
unfolding number_from
placed_more n d ds = ap (λ (w : ℕ). (d + 1) * w + number_from (w / 16) ds) (weight_is n)

placed_none : (n : ℕ) → placed n [] ≡ 0
unfolding number_from
placed_none n = refl

positive : (n : ℕ) → 0 < 16 ^ n
positive zero = omega arith
positive (suc n) = let h = positive n in let e = pow-suc 16 n in omega (arith, h, e)

first_small : (d : ℕ) (ds : List ℕ) → AreDigits (d ∷ ds) → d < 10
first_small d ds h = ltb-true d 10 (and_parts _ _ h).0

others_small : (d : ℕ) (ds : List ℕ) → AreDigits (d ∷ ds) → AreDigits ds
others_small d ds h = (and_parts _ _ h).1

placed_below : (n : ℕ) (ds : List ℕ) → length ds ≤ n → AreDigits ds → placed n ds < 16 ^ n
placed_below n [] long small = let h = positive n in let e = placed_none n in omega (arith, h, e)
placed_below zero (d ∷ ds) long small = absurd (omega (arith, long))
placed_below (suc n) (d ∷ ds) long small =
    let e = placed_more n d ds in
    let p = pow-suc 16 n in
    let rest = placed_below n ds (omega (arith, long)) (others_small d ds small) in
    let digit = first_small d ds small in
    let product : (d + 1) * 16 ^ n ≤ 10 * 16 ^ n = mul-le-mul_right (16 ^ n) (omega (arith, digit)) in
    omega (arith, e, p, rest, product)

pub number_small : (ds : List ℕ) → length ds ≤ 16 → AreDigits ds → number_of ds < 2 ^ 64
number_small ds long small = placed_below 16 ds long small

-- how numbers compare
pub is_less : (x y : ℕ) → x < y → nat_cmp x y ≡ Less
is_less x y h = ap (λ b. cond b Less (cond (x == y) Equal Greater)) (lt-ltb x y h)

pub is_greater : (x y : ℕ) → y < x → nat_cmp x y ≡ Greater
is_greater x y h = grind arith

pub is_same : (x y : ℕ) → x ≡ y → nat_cmp x y ≡ Equal
is_same x y e = grind arith

three_ways : (x y : ℕ) → (x < y) ⊎ ((x ≡ y) ⊎ (y < x))
three_ways zero zero = inr (inl refl)
three_ways zero (suc y) = inl (omega arith)
three_ways (suc x) zero = inr (inr (omega arith))
three_ways (suc x) (suc y) =
    elim (three_ways x y) [
      | inl h ↦ inl (omega (arith, h))
      | inr more ↦
          elim more [
            | inl e ↦ inr (inl (ap suc e))
            | inr h ↦ inr (inr (omega (arith, h)))
          ]
    ]

-- what comes before both does not count
pub shifted : (a r s : ℕ) → nat_cmp (a + r) (a + s) ≡ nat_cmp r s
shifted a r s = grind arith

-- the first digits decide where they differ
above_all : (w x y r s : ℕ) → x < y → r < w → (x + 1) * w + r < (y + 1) * w + s
above_all w x y r s h small = grind arith

weighed : (w x y r s : ℕ) (o : Ordering) → r < w → s < w → nat_cmp r s ≡ o → nat_cmp ((x + 1) * w + r) ((y + 1) * w + s) ≡ ordering_then (nat_cmp x y) o
weighed w x y r s o hr hs e =
    elim (three_ways x y) [
      | inl h ↦ is_less _ _ (above_all w x y r s h hr) ∙ sym (ap (λ (q : Ordering). ordering_then q o) (is_less x y h))
      | inr more ↦
          elim more [
            | inl same ↦
                ap (λ (q : ℕ). nat_cmp ((x + 1) * w + r) ((q + 1) * w + s)) (sym same)
                ∙ shifted ((x + 1) * w) r s ∙ e
                ∙ sym (ap (λ (q : Ordering). ordering_then q o) (is_same x y same))
            | inr h ↦ is_greater _ _ (above_all w y x s r h hs) ∙ sym (ap (λ (q : Ordering). ordering_then q o) (is_greater x y h))
          ]
    ]

placed_order : (n : ℕ) (xs ys : List ℕ) → length xs ≤ n → length ys ≤ n → AreDigits xs → AreDigits ys → nat_cmp (placed n xs) (placed n ys) ≡ slice_cmp nat_cmp xs ys
placed_order n [] [] lx ly hx hy = is_same (placed n []) (placed n []) refl
placed_order zero [] (y ∷ ys) lx ly hx hy = absurd (omega (arith, ly))
placed_order zero (x ∷ xs) ys lx ly hx hy = absurd (omega (arith, lx))
placed_order (suc n) [] (y ∷ ys) lx ly hx hy =
    let e = placed_more n y ys in
    let none = placed_none (suc n) in
    let product : 1 * 16 ^ n ≤ (y + 1) * 16 ^ n = mul-le-mul_right (16 ^ n) (omega arith) in
    let h = positive n in
    let below : placed (suc n) [] < placed (suc n) (y ∷ ys) = omega (arith, e, none, product, h) in
    is_less _ _ below
placed_order (suc n) (x ∷ xs) [] lx ly hx hy =
    let e = placed_more n x xs in
    let none = placed_none (suc n) in
    let product : 1 * 16 ^ n ≤ (x + 1) * 16 ^ n = mul-le-mul_right (16 ^ n) (omega arith) in
    let h = positive n in
    let above : placed (suc n) [] < placed (suc n) (x ∷ xs) = omega (arith, e, none, product, h) in
    is_greater _ _ above
placed_order (suc n) (x ∷ xs) (y ∷ ys) lx ly hx hy =
    let long_x : length xs ≤ n = omega (arith, lx) in
    let long_y : length ys ≤ n = omega (arith, ly) in
    let sx = others_small x xs hx in
    let sy = others_small y ys hy in
    ap (λ (q : ℕ). nat_cmp q (placed (suc n) (y ∷ ys))) (placed_more n x xs)
    ∙ ap (λ (q : ℕ). nat_cmp ((x + 1) * 16 ^ n + placed n xs) q) (placed_more n y ys)
    ∙ weighed (16 ^ n) x y (placed n xs) (placed n ys) _ (placed_below n xs long_x sx) (placed_below n ys long_y sy) (placed_order n xs ys long_x long_y sx sy)

-- numbers are ordered like the digits
pub numbers_order : (xs ys : List ℕ) → length xs ≤ 16 → length ys ≤ 16 → AreDigits xs → AreDigits ys → nat_cmp (number_of xs) (number_of ys) ≡ slice_cmp nat_cmp xs ys
numbers_order xs ys lx ly hx hy = placed_order 16 xs ys lx ly hx hy

-- a digit that is read from a number, and what is left
digit_read : (n d rest : ℕ) → rest < 1152921504606846976 → digits_in (suc n) ((d + 1) * 1152921504606846976 + rest) ≡ d ∷ digits_in n (rest * 16)
unfolding digits_in
digit_read n d rest small =
    let q = div-mul-add (d + 1) 1152921504606846976 rest small in
    let m = mod-mul-add (d + 1) 1152921504606846976 rest small in
    ap (λ (k : ℕ). if k == 0 then [] else (k - 1) ∷ digits_in n (((d + 1) * 1152921504606846976 + rest) % 1152921504606846976 * 16)) q
    ∙ chosen d _
    ∙ ap (λ (k : ℕ). d ∷ digits_in n (k * 16)) m
  where
    chosen : (d : ℕ) (more : List ℕ) → (if d + 1 == 0 then [] else (d + 1 - 1) ∷ more) ≡ d ∷ more
    chosen d more = ap (λ (b : Bool). cond b [] ((d + 1 - 1) ∷ more)) (ne_eqb (d + 1) 0 (λ e. omega (arith, e))) ∙ ap (λ (k : ℕ). k ∷ more) (add-sub_cancel d 1)

none_read : (n : ℕ) → digits_in n 0 ≡ []
unfolding digits_in
none_read zero = refl
none_read (suc n) = refl

placed_read : (n p : ℕ) (ds : List ℕ) → length ds ≤ n → AreDigits ds → 16 ^ n * p ≡ 18446744073709551616 → digits_in n (placed n ds * p) ≡ ds
placed_read n p [] long small whole = ap (λ (q : ℕ). digits_in n (q * p)) (placed_none n) ∙ ap (digits_in n) (zero-mul p) ∙ none_read n
placed_read zero p (d ∷ ds) long small whole = absurd (omega (arith, long))
placed_read (suc n) p (d ∷ ds) long small whole =
    let shorter : length ds ≤ n = omega (arith, long) in
    let smaller = others_small d ds small in
    let r = placed n ds in
    let w = 16 ^ n in
    let power : 16 ^ suc n * p ≡ w * p * 16 = ap (λ (q : ℕ). q * p) (pow-suc 16 n) ∙ mul_right_comm w 16 p in
    let slot : w * p ≡ 1152921504606846976 = omega (arith, power, whole) in
    let later : w * (p * 16) ≡ 18446744073709551616 = sym (mul_assoc w p 16) ∙ sym power ∙ whole in
    let p_positive : 0 < p = some_left w p slot in
    let below : r * p < w * p = mul-lt-mul_of_pos_right (placed_below n ds shorter smaller) p_positive in
    let fits : r * p < 1152921504606846976 = omega (arith, below, slot) in
    let value : placed (suc n) (d ∷ ds) * p ≡ (d + 1) * 1152921504606846976 + r * p =
    ap (λ (q : ℕ). q * p) (placed_more n d ds) ∙ add-mul ((d + 1) * w) r p
    ∙ ap (λ (q : ℕ). q + r * p) (mul_assoc (d + 1) w p ∙ ap (λ (q : ℕ). (d + 1) * q) slot) in
    ap (digits_in (suc n)) value
    ∙ digit_read n d (r * p) fits
    ∙ ap (λ (q : ℕ). d ∷ digits_in n q) (mul_assoc r p 16)
    ∙ ap (λ (q : List ℕ). d ∷ q) (placed_read n (p * 16) ds shorter smaller later)
  where
    some_left : (w p : ℕ) → w * p ≡ 1152921504606846976 → 0 < p
    some_left w zero e = absurd (omega (arith, e))
    some_left w (suc p) e = omega arith

-- the digits of a number of digits are these
pub digits_again : (ds : List ℕ) → length ds ≤ 16 → AreDigits ds → digits_of (number_of ds) ≡ ds
digits_again ds long small = ap (digits_in 16) (sym (mul-one (number_of ds))) ∙ placed_read 16 1 ds long small refl

-- what is added for a digit stays within the number of all digits
added_fits : (number weight d : ℕ) (ds all : List ℕ) → number + number_from weight (d ∷ ds) ≡ number_of all → length all ≤ 16 → AreDigits all
    → number + (d + 1) * weight < 2 ^ 64
unfolding number_from
added_fits number weight d ds all e long small =
    let h = number_small all long small in
    omega (arith, e, h)

pub sum_fits : (number weight i d digit : ℕ) (all : List ℕ) → i < length all → digit ≡ get_or all i d → number + number_from weight (drop i all) ≡ number_of all
    → length all ≤ 16 → AreDigits all → number + (digit + 1) * weight < 2 ^ 64
sum_fits number weight i d digit all there is e long small =
    subst (λ (q : ℕ). number + (q + 1) * weight < 2 ^ 64) (sym is)
    (added_fits number weight (get_or all i d) (drop (suc i) all) all (ap (λ (l : List ℕ). number + number_from weight l) (sym (drop-cons all i d there)) ∙ e) long small)

pub part_fits : (number weight i d digit : ℕ) (all : List ℕ) → i < length all → digit ≡ get_or all i d → number + number_from weight (drop i all) ≡ number_of all
    → length all ≤ 16 → AreDigits all → (digit + 1) * weight < 2 ^ 64
part_fits number weight i d digit all there is e long small =
    let h = sum_fits number weight i d digit all there is e long small in
    omega (arith, h)

-- a number that shows no digits, and one that shows some
pub none_shown : (slots n : ℕ) → n < 1152921504606846976 → digits_in slots n ≡ []
unfolding digits_in
none_shown zero n h = refl
none_shown (suc slots) n h = rw (eq-eqb (n / 1152921504606846976) 0 (omega (arith, h))) refl

pub some_shown : (slots n : ℕ) → 1152921504606846976 ≤ n → digits_or_hyphen (digits_in (suc slots) n) ≡ digit_text (digits_in (suc slots) n)
unfolding digits_in
some_shown slots n h = rw (ne_eqb (n / 1152921504606846976) 0 (λ e. omega (arith, e, h))) refl
