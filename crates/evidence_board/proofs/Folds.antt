-- What all views together gave, and their shares, where one view changes or comes.
use Rattle.std.proofs.Common.{◌≡◌, ◌≢◌, ℕ, zero, suc, ◌+◌, ◌<◌, ◌≤◌, min, max, List, [], ◌∷◌, ◌++◌, set, refl, arith, ap, sym, ◌∙◌, subst, ⊎_elim, inl, inr}
use Rattle.std.proofs.lemmas.Bool.{cases_lt}
use mathlib.Core.Option.{some, some-injective, some-ne-none}
use lib.ListN.{get_elem?}
use Rattle.atomic_table.proofs.Lists.{at_set, at_snoc, set_else}
use Rattle.evidence_board.specs.Views.{View, place_at}
use Rattle.evidence_board.specs.Rule.{lowest, highest, total, Each}

-- the view of each seat, where one changes or comes
pub each_set : (P : View → Type 0) (views : List View) (k : ℕ) (w : View) → Each P views → P w → Each P (set views k w)
each_set P views k w each here seat view at =
    ⊎_elim (λ t. subst P t.1 here) (λ t. each seat view t.1) (at_set views k seat w view at)

-- what holds of all views and of one more holds of all of them
pub each_push : (P : View → Type 0) (views : List View) (w : View) → Each P views → P w → Each P (views ++ w ∷ [])
each_push P views w each here seat view at = ⊎_elim (each seat view) (λ t. subst P t here) (at_snoc views w view seat at)

each_tail : (P : View → Type 0) (u : View) (views : List View) → Each P (u ∷ views) → Each P views
each_tail P u views each seat view at = each (suc seat) view at

module _ (p : ℕ) where
  pub lowest_small : (views : List View) → lowest p views ≤ 128
  lowest_small [] = omega arith
  lowest_small (u ∷ views) = omega (arith, lowest_small views)

  pub lowest_below : (views : List View) (k : ℕ) (v : View) → get_elem? views k ≡ some v → lowest p views ≤ (place_at v p).given.least
  lowest_below [] k v at = absurd (some-ne-none v (sym at))
  lowest_below (u ∷ views) zero v at = let same : (place_at u p).given.least ≡ (place_at v p).given.least = ap (λ (x : View). (place_at x p).given.least) (some-injective u v at) in omega arith
  lowest_below (u ∷ views) (suc k) v at = omega (arith, lowest_below views k v at)

  pub lowest_set : (views : List View) (k x : ℕ) (v w : View) → get_elem? views k ≡ some v → (place_at w p).given.least ≡ min (place_at v p).given.least x → lowest p (set views k w) ≡ min (lowest p views) x
  lowest_set [] k x v w at is = absurd (some-ne-none v (sym at))
  lowest_set (u ∷ views) zero x v w at is = let same : (place_at u p).given.least ≡ (place_at v p).given.least = ap (λ (y : View). (place_at y p).given.least) (some-injective u v at) in omega arith
  lowest_set (u ∷ views) (suc k) x v w at is = omega (arith, lowest_set views k x v w at is)

  pub lowest_same : (views : List View) (k : ℕ) (v w : View) → get_elem? views k ≡ some v → (place_at w p).given.least ≡ (place_at v p).given.least → lowest p (set views k w) ≡ lowest p views
  lowest_same [] k v w at is = absurd (some-ne-none v (sym at))
  lowest_same (u ∷ views) zero v w at is = let same : (place_at u p).given.least ≡ (place_at v p).given.least = ap (λ (y : View). (place_at y p).given.least) (some-injective u v at) in omega arith
  lowest_same (u ∷ views) (suc k) v w at is = omega (arith, lowest_same views k v w at is)

  pub lowest_push : (views : List View) (w : View) → lowest p (views ++ w ∷ []) ≡ min (lowest p views) (place_at w p).given.least
  lowest_push [] w = omega arith
  lowest_push (u ∷ views) w = omega (arith, lowest_push views w)

  -- a view that gave no more than n did goes
  lowest_bound : (views : List View) (n k : ℕ) (v w : View) → get_elem? views k ≡ some v → n ≤ (place_at v p).given.least → (place_at w p).given.least ≡ 128 → min n (lowest p (set views k w)) ≡ min n (lowest p views)
  lowest_bound [] n k v w at more is = absurd (some-ne-none v (sym at))
  lowest_bound (u ∷ views) n zero v w at more is =
      let same : (place_at u p).given.least ≡ (place_at v p).given.least = ap (λ (y : View). (place_at y p).given.least) (some-injective u v at) in
      omega (arith, lowest_small views)
  lowest_bound (u ∷ views) n (suc k) v w at more is = omega (arith, lowest_bound views n k v w at more is)

  pub lowest_spent : (views : List View) (j k : ℕ) (v w z : View) → j ≢ k → get_elem? views k ≡ some v → get_elem? views j ≡ some w → (place_at v p).given.least ≤ (place_at w p).given.least → (place_at z p).given.least ≡ 128 → lowest p (set views j z) ≡ lowest p views
  lowest_spent views j k v w z apart at there more is =
      let kept : get_elem? (set views j z) k ≡ some v = set_else views j k z (λ e. apart (sym e)) ∙ at in
      omega (arith, lowest_bound views (place_at v p).given.least j w z there more is, lowest_below views k v at, lowest_below (set views j z) k v kept)

  lowest_none : (views : List View) → Each (λ w. (place_at w p).given.least ≡ 128) views → lowest p views ≡ 128
  lowest_none [] each = refl
  lowest_none (u ∷ views) each = let none = lowest_none views (each_tail (λ w. (place_at w p).given.least ≡ 128) u views each) in let here = each 0 u refl in omega arith

  pub lowest_alone : (views : List View) (k : ℕ) (v : View) → get_elem? views k ≡ some v → (place_at v p).given.least ≤ 128 → ((j : ℕ) (w : View) → j ≢ k → get_elem? views j ≡ some w → (place_at w p).given.least ≡ 128) → lowest p views ≡ (place_at v p).given.least
  lowest_alone [] k v at small others = absurd (some-ne-none v (sym at))
  lowest_alone (u ∷ views) zero v at small others =
      let same : (place_at u p).given.least ≡ (place_at v p).given.least = ap (λ (y : View). (place_at y p).given.least) (some-injective u v at) in
      let none = lowest_none views (λ j w there. others (suc j) w (λ e. omega arith) there) in
      omega arith
  lowest_alone (u ∷ views) (suc k) v at small others =
      let here = others 0 u (λ e. omega arith) refl in
      let rest = lowest_alone views k v at small (λ j w apart there. others (suc j) w (λ e. apart (omega arith)) there) in
      omega arith

  pub highest_above : (views : List View) (k : ℕ) (v : View) → get_elem? views k ≡ some v → (place_at v p).given.past ≤ highest p views
  highest_above [] k v at = absurd (some-ne-none v (sym at))
  highest_above (u ∷ views) zero v at = let same : (place_at u p).given.past ≡ (place_at v p).given.past = ap (λ (x : View). (place_at x p).given.past) (some-injective u v at) in omega arith
  highest_above (u ∷ views) (suc k) v at = omega (arith, highest_above views k v at)

  pub highest_set : (views : List View) (k x : ℕ) (v w : View) → get_elem? views k ≡ some v → (place_at w p).given.past ≡ max (place_at v p).given.past x → highest p (set views k w) ≡ max (highest p views) x
  highest_set [] k x v w at is = absurd (some-ne-none v (sym at))
  highest_set (u ∷ views) zero x v w at is = let same : (place_at u p).given.past ≡ (place_at v p).given.past = ap (λ (y : View). (place_at y p).given.past) (some-injective u v at) in omega arith
  highest_set (u ∷ views) (suc k) x v w at is = omega (arith, highest_set views k x v w at is)

  pub highest_same : (views : List View) (k : ℕ) (v w : View) → get_elem? views k ≡ some v → (place_at w p).given.past ≡ (place_at v p).given.past → highest p (set views k w) ≡ highest p views
  highest_same [] k v w at is = absurd (some-ne-none v (sym at))
  highest_same (u ∷ views) zero v w at is = let same : (place_at u p).given.past ≡ (place_at v p).given.past = ap (λ (y : View). (place_at y p).given.past) (some-injective u v at) in omega arith
  highest_same (u ∷ views) (suc k) v w at is = omega (arith, highest_same views k v w at is)

  pub highest_push : (views : List View) (w : View) → highest p (views ++ w ∷ []) ≡ max (highest p views) (place_at w p).given.past
  highest_push [] w = omega arith
  highest_push (u ∷ views) w = omega (arith, highest_push views w)

  highest_bound : (views : List View) (n k : ℕ) (v w : View) → get_elem? views k ≡ some v → (place_at v p).given.past ≤ n → (place_at w p).given.past ≡ 0 → max n (highest p (set views k w)) ≡ max n (highest p views)
  highest_bound [] n k v w at more is = absurd (some-ne-none v (sym at))
  highest_bound (u ∷ views) n zero v w at more is =
      let same : (place_at u p).given.past ≡ (place_at v p).given.past = ap (λ (y : View). (place_at y p).given.past) (some-injective u v at) in
      omega arith
  highest_bound (u ∷ views) n (suc k) v w at more is = omega (arith, highest_bound views n k v w at more is)

  pub highest_spent : (views : List View) (j k : ℕ) (v w z : View) → j ≢ k → get_elem? views k ≡ some v → get_elem? views j ≡ some w → (place_at w p).given.past ≤ (place_at v p).given.past → (place_at z p).given.past ≡ 0 → highest p (set views j z) ≡ highest p views
  highest_spent views j k v w z apart at there more is =
      let kept : get_elem? (set views j z) k ≡ some v = set_else views j k z (λ e. apart (sym e)) ∙ at in
      omega (arith, highest_bound views (place_at v p).given.past j w z there more is, highest_above views k v at, highest_above (set views j z) k v kept)

  highest_none : (views : List View) → Each (λ w. (place_at w p).given.past ≡ 0) views → highest p views ≡ 0
  highest_none [] each = refl
  highest_none (u ∷ views) each = let none = highest_none views (each_tail (λ w. (place_at w p).given.past ≡ 0) u views each) in let here = each 0 u refl in omega arith

  pub highest_alone : (views : List View) (k : ℕ) (v : View) → get_elem? views k ≡ some v → ((j : ℕ) (w : View) → j ≢ k → get_elem? views j ≡ some w → (place_at w p).given.past ≡ 0) → highest p views ≡ (place_at v p).given.past
  highest_alone [] k v at others = absurd (some-ne-none v (sym at))
  highest_alone (u ∷ views) zero v at others =
      let same : (place_at u p).given.past ≡ (place_at v p).given.past = ap (λ (y : View). (place_at y p).given.past) (some-injective u v at) in
      let none = highest_none views (λ j w there. others (suc j) w (λ e. omega arith) there) in
      omega arith
  highest_alone (u ∷ views) (suc k) v at others =
      let here = others 0 u (λ e. omega arith) refl in
      let rest = highest_alone views k v at (λ j w apart there. others (suc j) w (λ e. apart (omega arith)) there) in
      omega arith

  -- what is below each view's past is below the highest
  pub highest_met : (lo : ℕ) (views : List View) → Each (λ w. 0 < (place_at w p).given.past → lo < (place_at w p).given.past) views → 0 < highest p views → lo < highest p views
  highest_met lo [] each some_there = absurd (omega arith)
  highest_met lo (u ∷ views) each some_there =
      elim (cases_lt (place_at u p).given.past (highest p views)) [
        | inl rest ↦ let met = highest_met lo views (each_tail (λ w. 0 < (place_at w p).given.past → lo < (place_at w p).given.past) u views each) (omega arith) in omega arith
        | inr here ↦ let met = each 0 u refl (omega arith) in omega arith
      ]

pub total_set : (views : List View) (k : ℕ) (v w : View) → get_elem? views k ≡ some v → total (set views k w) + v.share ≡ total views + w.share
total_set [] k v w at = absurd (some-ne-none v (sym at))
total_set (u ∷ views) zero v w at = let same : u.share ≡ v.share = ap (λ (y : View). y.share) (some-injective u v at) in omega arith
total_set (u ∷ views) (suc k) v w at = omega (arith, total_set views k v w at)

pub total_push : (views : List View) (w : View) → total (views ++ w ∷ []) ≡ total views + w.share
total_push [] w = omega arith
total_push (u ∷ views) w = omega (arith, total_push views w)

pub total_above : (views : List View) (k : ℕ) (v : View) → get_elem? views k ≡ some v → v.share ≤ total views
total_above [] k v at = absurd (some-ne-none v (sym at))
total_above (u ∷ views) zero v at = let same : u.share ≡ v.share = ap (λ (y : View). y.share) (some-injective u v at) in omega arith
total_above (u ∷ views) (suc k) v at = omega (arith, total_above views k v at)

pub total_two : (views : List View) (j k : ℕ) (v w : View) → j ≢ k → get_elem? views k ≡ some v → get_elem? views j ≡ some w → v.share + w.share ≤ total views
total_two [] j k v w apart at there = absurd (some-ne-none v (sym at))
total_two (u ∷ views) zero zero v w apart at there = absurd (apart refl)
total_two (u ∷ views) zero (suc k) v w apart at there = let same : u.share ≡ w.share = ap (λ (y : View). y.share) (some-injective u w there) in omega (arith, total_above views k v at)
total_two (u ∷ views) (suc j) zero v w apart at there = let same : u.share ≡ v.share = ap (λ (y : View). y.share) (some-injective u v at) in omega (arith, total_above views j w there)
total_two (u ∷ views) (suc j) (suc k) v w apart at there = omega (arith, total_two views j k v w (λ e. apart (ap suc e)) at there)
