-- Numbers that rise are known by which they are.
use Rattle.std.proofs.Common.{◌≡◌, ℕ, ◌<◌, ◌≤◌, Bool, true, false, cond, ◌||◌, ◌==◌, nat_lt, List, [], ◌∷◌, Option, Some, None, refl, sym, ap, ◌∙◌, inl, inr, arith}
use Rattle.std.specs.List.{AllByRecursion}
use Rattle.std.specs.List.Sorted.{IsStrictlySortedBy}
use Rattle.std.specs.Prelude.{is_some}
use Rattle.std.specs.declared.cmp.Ordering.TheVariants.{Less, Equal, Greater}
use Rattle.std.specs.Map.{lookup, keys_of}
use Rattle.std.specs.Ordering.{nat_cmp, is_eq}
use Rattle.std.proofs.lemmas.Bool.{cases_lt, cond-true, cond-false, lt-ltb, ne_eqb, eq-eqb, le-ltb}
use Rattle.std.proofs.lemmas.Map.Keys.{sorted_head, sorted_tail}
use Rattle.join_groups.specs.Groups.{AreAbove, IsRising, is_among}

above_more : (m n : ℕ) (numbers : List ℕ) → m ≤ n → AreAbove n numbers → AreAbove m numbers
above_more m n [] h a = tt
above_more m n (k ∷ numbers) h a = (omega (arith, a.0), above_more m n numbers h a.1)

-- what is below a list is none of it
pub below_not_among : (n k : ℕ) (numbers : List ℕ) → AreAbove n numbers → k ≤ n → is_among numbers k ≡ false
below_not_among n k [] a h = refl
below_not_among n k (m ∷ numbers) a h =
    let apart : m ≡ k → ⊥ = λ e. absurd (omega (arith, a.0, e)) in
    let no : (m == k) ≡ false = ne_eqb m k apart in
    ap (λ (b : Bool). b || is_among numbers k) no ∙ below_not_among n k numbers a.1 h

first_among : (m : ℕ) (numbers : List ℕ) → is_among (m ∷ numbers) m ≡ true
first_among m numbers = ap (λ (b : Bool). b || is_among numbers m) (eq-eqb m m refl)

-- a number above the first one is among the list where it is among the rest
rest_among : (m k : ℕ) (numbers : List ℕ) → (m ≡ k → ⊥) → is_among (m ∷ numbers) k ≡ is_among numbers k
rest_among m k numbers h = ap (λ (b : Bool). b || is_among numbers k) (ne_eqb m k h)

-- rising lists with the same numbers are the same
pub same_rising : (a b : List ℕ) → IsRising a → IsRising b → ((k : ℕ) → is_among a k ≡ is_among b k) → a ≡ b
same_rising [] [] ra rb same = refl
same_rising [] (y ∷ b) ra rb same = let never : false ≡ true = same y ∙ first_among y b in absurd cc
same_rising (x ∷ a) [] ra rb same = let never : true ≡ false = sym (first_among x a) ∙ same x in absurd cc
same_rising (x ∷ a) (y ∷ b) ra rb same =
    let heads : x ≡ y = elim (cases_lt x y) [
      | inl lt ↦ (let never : true ≡ false = sym (first_among x a) ∙ same x ∙ below_not_among x x (y ∷ b) (lt, above_more x y b (omega arith) rb.0) (omega arith) in absurd cc)
      | inr le ↦ elim (cases_lt y x) [
        | inl lt ↦ (let never : true ≡ false = sym (first_among y b) ∙ sym (same y) ∙ below_not_among y y (x ∷ a) (lt, above_more y x a (omega arith) ra.0) (omega arith) in absurd cc)
        | inr ge ↦ omega arith
      ]
    ] in
    let rests : (k : ℕ) → is_among a k ≡ is_among b k = λ k. elim (cases_lt x k) [
      | inl lt ↦ sym (rest_among x k a (λ e. absurd (omega (arith, lt, e)))) ∙ same k ∙ rest_among y k b (λ e. absurd (omega (arith, lt, e, heads)))
      | inr le ↦ below_not_among x k a ra.0 le ∙ sym (below_not_among y k b rb.0 (omega (arith, heads)))
    ] in
    ap (λ (n : ℕ). n ∷ a) heads ∙ ap (λ (l : List ℕ). y ∷ l) (same_rising a b ra.1 rb.1 rests)

-- keys of entries
flip_eq : (a b : ℕ) → (a == b) ≡ (b == a)
flip_eq a b = grind arith

equal_or_not : (t : Bool) → is_eq (cond t Equal Greater) ≡ t
equal_or_not true = refl
equal_or_not false = refl

pub at_test : (a b : ℕ) → is_eq (nat_cmp a b) ≡ (a == b)
at_test a b = elim (cases_lt a b) [
  | inl lt ↦ ap is_eq (cond-true (nat_lt a b) Less (cond (a == b) Equal Greater) (lt-ltb a b lt)) ∙ sym (ne_eqb a b (λ e. absurd (omega (arith, lt, e))))
  | inr le ↦ ap is_eq (cond-false (nat_lt a b) Less (cond (a == b) Equal Greater) (le-ltb a b le)) ∙ equal_or_not (a == b)
]

less_is : (a b : ℕ) → nat_cmp a b ≡ Less → a < b
less_is a b h = elim (cases_lt a b) [
  | inl lt ↦ lt
  | inr le ↦ absurd (never (a == b) (sym (cond-false (nat_lt a b) Less (cond (a == b) Equal Greater) (le-ltb a b le)) ∙ h))
]
  where
    never : (t : Bool) → cond t Equal Greater ≡ Less → ⊥
    never true e = absurd cc
    never false e = absurd cc

above_of : (k : ℕ) (ks : List ℕ) → AllByRecursion (λ y. nat_cmp k y ≡ Less) ks → AreAbove k ks
above_of k [] h = tt
above_of k (y ∷ ks) h = (less_is k y h.0, above_of k ks h.1)

-- keys in strict order rise
pub rising_keys : (ks : List ℕ) → IsStrictlySortedBy nat_cmp ks → IsRising ks
rising_keys [] h = tt
rising_keys (k ∷ ks) h = (above_of k ks (sorted_head nat_cmp k ks h), rising_keys ks (sorted_tail nat_cmp k ks h))

-- what a look-up finds
abbrev pub found : {X : Type 0} → List (ℕ × X) → ℕ → Option X
found es k = lookup (λ n. is_eq (nat_cmp k n)) es

some_first : {X : Type 0} (t : Bool) (x : X) (o : Option X) → is_some (cond t (Some x) o) ≡ (t || is_some o)
some_first true x o = refl
some_first false x o = refl

pub among_keys : {X : Type 0} (es : List (ℕ × X)) (k : ℕ) → is_among (keys_of es) k ≡ is_some (found es k)
among_keys [] k = refl
among_keys (e ∷ es) k =
    ap (λ (b : Bool). (e.0 == k) || b) (among_keys es k) ∙ ap (λ (b : Bool). b || is_some (found es k)) (flip_eq e.0 k ∙ sym (at_test k e.0))
    ∙ sym (some_first (is_eq (nat_cmp k e.0)) e.1 (found es k))

none_above : {X : Type 0} (es : List (ℕ × X)) (k : ℕ) → AreAbove k (keys_of es) → found es k ≡ None
none_above [] k a = refl
none_above (e ∷ es) k a =
    cond-false (is_eq (nat_cmp k e.0)) (Some e.1) (found es k) (at_test k e.0 ∙ ne_eqb k e.0 (λ is. absurd (omega (arith, a.0, is)))) ∙ none_above es k a.1

-- what holds of all that is found holds of each entry
pub each_found : {X : Type 0} (P : ℕ → X → Type 0) (es : List (ℕ × X)) → IsRising (keys_of es) → ((k : ℕ) (x : X) → found es k ≡ Some x → P k x) → AllByRecursion (λ e. P e.0 e.1) es
each_found P [] rising all = tt
each_found P (e ∷ es) rising all = (
  all e.0 e.1 (cond-true (is_eq (nat_cmp e.0 e.0)) (Some e.1) (found es e.0) (at_test e.0 e.0 ∙ eq-eqb e.0 e.0 refl)),
  each_found P es rising.1 (λ k x is. all k x
      (elim (cases_lt e.0 k) [
        | inl lt ↦ cond-false (is_eq (nat_cmp k e.0)) (Some e.1) (found es k) (at_test k e.0 ∙ ne_eqb k e.0 (λ same. absurd (omega (arith, lt, same)))) ∙ is
        | inr le ↦ (let none : found es k ≡ None = none_above es k (above_more k e.0 (keys_of es) le rising.0) in
            let never : None ≡ Some x = sym none ∙ is in absurd cc)
      ])),
)
