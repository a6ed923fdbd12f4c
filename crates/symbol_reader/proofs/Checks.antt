-- The error check character as it is counted.
use Rattle.std.proofs.Common.{◌≡◌, ℕ, ◌+◌, ◌<◌, ◌≤◌, List, [], ◌∷◌, ◌++◌, length, drop, get_or, refl, sym, ◌∙◌, ap, drop-cons, add-one}
use Rattle.std.specs.Int.Bits.{bit_xor, xor_assoc, xor_self, xor_zero_l, xor_zero_r}
use Rattle.std.proofs.lemmas.List.{drop_all}
use Rattle.symbol_reader.specs.Checks.{check_of}

check_more : (x : ℕ) (l : List ℕ) → check_of (x ∷ l) ≡ bit_xor x (check_of l)
unfolding check_of
check_more x l = refl

check_none : check_of [] ≡ 0
unfolding check_of
check_none = refl

-- one more symbol is counted
pub count_more : (k i r : ℕ) (l : List ℕ) → i < length l → bit_xor k (check_of (drop i l)) ≡ r
    → bit_xor (bit_xor k (get_or l i 0)) (check_of (drop (i + 1) l)) ≡ r
count_more k i r l h e =
    let x : ℕ = get_or l i 0 in
    let first : drop i l ≡ x ∷ drop (i + 1) l = rw add-one (drop-cons l i 0 h) in
    let whole : check_of (drop i l) ≡ bit_xor x (check_of (drop (i + 1) l)) = ap check_of first ∙ check_more x (drop (i + 1) l) in
    xor_assoc k x (check_of (drop (i + 1) l)) ∙ ap (λ a. bit_xor k a) (sym whole) ∙ e

-- all symbols are counted
pub count_all : (k i r : ℕ) (l : List ℕ) → length l ≤ i → bit_xor k (check_of (drop i l)) ≡ r → k ≡ r
count_all k i r l h e =
    let none : check_of (drop i l) ≡ 0 = ap check_of (drop_all i l h) ∙ check_none in
    sym (xor_zero_r k) ∙ ap (λ a. bit_xor k a) (sym none) ∙ e

-- the exclusive or with a symbol gives different numbers for different ones
xor_apart : (x a b : ℕ) → bit_xor x a ≡ bit_xor x b → a ≡ b
xor_apart x a b e =
    let twice : (r : ℕ) → bit_xor x (bit_xor x r) ≡ r = λ r. sym (xor_assoc x x r) ∙ ap (λ y. bit_xor y r) (xor_self x) ∙ xor_zero_l r in
    sym (twice a) ∙ ap (λ y. bit_xor x y) e ∙ twice b

-- so lists that differ in the last symbol alone have different checks
pub last_by_check : (l : List ℕ) (a b : ℕ) → check_of (l ++ (a ∷ [])) ≡ check_of (l ++ (b ∷ [])) → a ≡ b
last_by_check [] a b e =
    let one : (x : ℕ) → check_of (x ∷ []) ≡ x = λ x. check_more x [] ∙ ap (λ y. bit_xor x y) check_none ∙ xor_zero_r x in
    sym (one a) ∙ e ∙ one b
last_by_check (x ∷ l) a b e =
    last_by_check l a b (xor_apart x (check_of (l ++ (a ∷ []))) (check_of (l ++ (b ∷ []))) (sym (check_more x (l ++ (a ∷ []))) ∙ e ∙ check_more x (l ++ (b ∷ []))))
