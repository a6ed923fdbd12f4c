-- sets in an order that distinguishes keys
use Rattle.std.specs.BTreeSet as sorted
use Rattle.std.proofs.Common.{arith, ◌≡◌, ◌↔◌, ◌⊎◌, Bool, true, not, ◌||◌, IsTrue, List, [], ◌∷◌, refl, sym, ◌∙◌, subst, inl, inr}
use Rattle.std.specs.BTreeSet.{BTreeSet}
use Rattle.std.specs.Cmp.{IsTotalOrder}
use Rattle.std.specs.List.{Contains, list_any}
use Rattle.std.specs.List.Sorted.{IsStrictlySortedBy}
use Rattle.std.specs.Ordering.{is_eq, eq_by_cmp}
use Rattle.std.specs.declared.cmp.Ordering.{Ordering}
use Rattle.std.specs.declared.cmp.Ordering.TheVariants.{Less}
use Rattle.std.proofs.lemmas.Bool.{cases_Bool, or_cases, or_left, or_right}
use Rattle.std.proofs.lemmas.Cmp.{eq_by_cmp_equiv}
use Rattle.std.proofs.lemmas.List.Elements.{All-contains, Contains-append_left, Contains-append_right, Contains-push}
use Rattle.std.proofs.lemmas.Map.Keys.{sorted_tail}
use Rattle.std.proofs.lemmas.Map.Lookups.{CmpEqualImpliesEq}
use Rattle.std.proofs.lemmas.Map.Views.{All-after_first, btree_set_contains_iff, tells_apart, Contains-from_any, list_any-from_Contains}
use Rattle.plain_laws.proofs.Lists.{holds_none}

is_not : (a : Bool) → (a ≡ true → ⊥) → IsTrue (not a)
is_not a none = grind arith

isnt : (a : Bool) → IsTrue (not a) → a ≡ true → ⊥
isnt a h e = grind arith

-- where a key of a list is
pub first : {K : Type 0} (x : K) (xs : List K) → Contains (x ∷ xs) x
first x xs = Contains-append_left (x ∷ []) xs x (Contains-push [] x)

-- a list contains what its rest contains
pub later : {K : Type 0} (x : K) (xs : List K) (k : K) → Contains xs k → Contains (x ∷ xs) k
later x xs k h = Contains-append_right (x ∷ []) xs k h

pub one_of : {K : Type 0} (x : K) (xs : List K) (k : K) → Contains (x ∷ xs) k → (x ≡ k) ⊎ Contains xs k
one_of x xs k h = grind arith

module _ {K : Type 0} {R : K → K → Ordering} (o : IsTotalOrder R) (exact : CmpEqualImpliesEq R) where
  has : (s : BTreeSet K) (k : K) → (sorted.contains R s k ≡ true) ↔ Contains s.keys k
  has s k = btree_set_contains_iff o exact s k

  -- a key after the first of a rising list is above it
  pub above : (x : K) (xs : List K) (k : K) → IsStrictlySortedBy R (x ∷ xs) → Contains xs k → R x k ≡ Less
  above x xs k h there = All-contains (λ q. R x q ≡ Less) xs k (All-after_first R x xs h) there

  not_itself : (x y : K) → x ≡ y → R x y ≡ Less → ⊥
  not_itself x y e h = grind arith

  not_both : (x y : K) → R x y ≡ Less → R y x ≡ Less → ⊥
  not_both x y h g =
      let back : R x x ≡ Less = o.trans x y x h g in
      not_itself x x refl back

  first_is : (x y : K) (xs ys : List K) → IsStrictlySortedBy R (x ∷ xs) → IsStrictlySortedBy R (y ∷ ys)
      → Contains (y ∷ ys) x → Contains (x ∷ xs) y → x ≡ y
  first_is x y xs ys hx hy h g =
      elim (one_of y ys x h) [
        | inl same ↦ sym same
        | inr behind ↦
            elim (one_of x xs y g) [
              | inl same ↦ same
              | inr after ↦ absurd (not_both x y (above x xs y hx after) (above y ys x hy behind))
            ]
      ]

  behind_first : (x y : K) (xs ys : List K) → x ≡ y → IsStrictlySortedBy R (x ∷ xs) → (k : K) → (Contains (x ∷ xs) k → Contains (y ∷ ys) k) → Contains xs k → Contains ys k
  behind_first x y xs ys e hx k to here =
      elim (one_of y ys k (to (later x xs k here))) [
        | inl same ↦ absurd (not_itself x k (e ∙ same) (above x xs k hx here))
        | inr there ↦ there
      ]

  -- two rising lists with the same keys are one
  pub one_rising : (xs ys : List K) → IsStrictlySortedBy R xs → IsStrictlySortedBy R ys → ((k : K) → Contains xs k ↔ Contains ys k) → xs ≡ ys
  one_rising [] [] hx hy same = refl
  one_rising [] (y ∷ ys) hx hy same = absurd (holds_none y ((same y).1 (first y ys)))
  one_rising (x ∷ xs) [] hx hy same = absurd (holds_none x ((same x).0 (first x xs)))
  one_rising (x ∷ xs) (y ∷ ys) hx hy same =
      let e = first_is x y xs ys hx hy ((same x).0 (first x xs)) ((same y).1 (first y ys)) in
      let tails = one_rising xs ys (sorted_tail R x xs hx) (sorted_tail R y ys hy) (λ k. (
        behind_first x y xs ys e hx k (same k).0,
        behind_first y x ys xs (sym e) hy k (same k).1,
      )) in
      λ i. e i ∷ tails i

  -- a key that is inserted is there, and so are the others
  inserted : (s n : BTreeSet K) (k q : K) → sorted.Updates R s n k true → Contains n.keys q → Contains s.keys q ⊎ (k ≡ q)
  inserted s n k q u here =
      elim (cases_Bool (is_eq (R k q))) [
        | inl is ↦ inr (tells_apart exact k q is)
        | inr other ↦ inl ((has s q).0 (sym (u.2 q other) ∙ (has n q).1 here))
      ]

  stays : (s n : BTreeSet K) (k q : K) → sorted.Updates R s n k true → Contains s.keys q → Contains n.keys q
  stays s n k q u here =
      elim (cases_Bool (is_eq (R k q))) [
        | inl is ↦ subst (λ (x : K). Contains n.keys x) (tells_apart exact k q is) ((has n k).0 u.1)
        | inr other ↦ (has n q).0 (u.2 q other ∙ (has s q).1 here)
      ]

  pub noted : (s n : BTreeSet K) (k : K) → sorted.Updates R s n k true → (q : K) → Contains n.keys q ↔ (Contains s.keys q ⊎ (k ≡ q))
  noted s n k u q = (
    inserted s n k q u,
    λ either. elim either [
      | inl here ↦ stays s n k q u here
      | inr same ↦ subst (λ (x : K). Contains n.keys x) same ((has n k).0 u.1)
    ],
  )

  -- an insertion answers whether the key is new
  pub is_new : (s : BTreeSet K) (k : K) (added : Bool) → added ≡ not (sorted.contains R s k) → IsTrue added ↔ (Contains s.keys k → ⊥)
  is_new s k added e = (
    λ yes here. isnt (sorted.contains R s k) (sym e ∙ yes) ((has s k).1 here),
    λ none. e ∙ is_not (sorted.contains R s k) (λ h. none ((has s k).0 h)),
  )

  -- a union has the keys of both
  pub united : (xs ys zs : List K) → ((q : K) → list_any (eq_by_cmp R q) zs ≡ (list_any (eq_by_cmp R q) xs || list_any (eq_by_cmp R q) ys))
      → (q : K) → Contains zs q ↔ (Contains xs q ⊎ Contains ys q)
  united xs ys zs h q =
      let all = eq_by_cmp_equiv o in
      let find = tells_apart exact in (
        λ here. elim (or_cases (list_any (eq_by_cmp R q) xs) (list_any (eq_by_cmp R q) ys) (sym (h q) ∙ list_any-from_Contains all q zs here)) [
          | inl left ↦ inl (Contains-from_any find q xs left)
          | inr right ↦ inr (Contains-from_any find q ys right)
        ],
        λ either. elim either [
          | inl left ↦ Contains-from_any find q zs (h q ∙ or_left _ _ (list_any-from_Contains all q xs left))
          | inr right ↦ Contains-from_any find q zs (h q ∙ or_right _ _ (list_any-from_Contains all q ys right))
        ],
      )
