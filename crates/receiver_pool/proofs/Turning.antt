-- Rows whose elements turn one by one, grow or shrink.
use Rattle.std.proofs.Common.{◌≡◌, ℕ, ◌+◌, ◌<◌, ◌≤◌, List, [], ◌∷◌, ◌++◌, length, set, slice_index_or, refl, arith, ap, sym, ◌∙◌, subst, inl, inr}
use Rattle.std.proofs.lemmas.Bool.{cases_eq, cases_lt}
use Rattle.std.proofs.lemmas.List.{length-set, length-append, get_or-set_same, get_or-set_other, get_or_append_left, get_or_push}

-- below k the elements are as before, and from k on they turned, or the other way round
pub record Turned {X : Type 0} (P Q : ℕ → X → Type 0) (d : X) (xs : List X) (k n : ℕ) : Type 0 where
  pub count : length xs ≡ n
  pub below : (j : ℕ) → j < k → j < n → P j (slice_index_or xs j d)
  pub above : (j : ℕ) → k ≤ j → j < n → Q j (slice_index_or xs j d)

-- all elements of a row
pub record Row {X : Type 0} (P : ℕ → X → Type 0) (d : X) (xs : List X) (n : ℕ) : Type 0 where
  pub count : length xs ≡ n
  pub each : (j : ℕ) → j < n → P j (slice_index_or xs j d)

module _ {X : Type 0} (P Q : ℕ → X → Type 0) (d : X) where
  set_here : (xs : List X) (j k : ℕ) (x : X) → j ≡ k → k < length xs → P k x → P j (slice_index_or (set xs k x) j d)
  set_here xs j k x here inside held =
      subst (λ (i : ℕ). P i (slice_index_or (set xs k x) i d)) (sym here) (subst (P k) (sym (get_or-set_same xs k x d inside)) held)

  set_apart : (xs : List X) (j k : ℕ) (x : X) → ((j ≡ k) → ⊥) → P j (slice_index_or xs j d) → P j (slice_index_or (set xs k x) j d)
  set_apart xs j k x apart held = subst (P j) (sym (get_or-set_other xs k j x d apart)) held

module _ {X : Type 0} (P Q : ℕ → X → Type 0) (d : X) where
  -- one element more turned, from below
  pub turned_up : (xs : List X) (k n : ℕ) (x : X) → k < n → P k x → Turned P Q d xs k n → Turned P Q d (set xs k x) (k + 1) n
  turned_up xs k n x inside held was = record {
    count = length-set xs k x ∙ was.count;
    below = λ j low small. elim (cases_eq j k) [
      | inl here ↦ set_here P Q d xs j k x here (omega (arith, was.count)) held
      | inr apart ↦ set_apart P Q d xs j k x apart (was.below j (omega arith) small)
    ];
    above = λ j high small. set_apart Q P d xs j k x (λ e. omega arith) (was.above j (omega arith) small);
  }

  -- and from above
  pub turned_down : (xs : List X) (k l m n : ℕ) (x : X) → l ≡ k → m ≡ k + 1 → k < n → Q k x → Turned P Q d xs m n → Turned P Q d (set xs k x) l n
  turned_down xs k l m n x is next inside held was = record {
    count = length-set xs k x ∙ was.count;
    below = λ j low small. set_apart P Q d xs j k x (λ e. omega arith) (was.below j (omega arith) small);
    above = λ j high small. elim (cases_eq j k) [
      | inl here ↦ set_here Q P d xs j k x here (omega (arith, was.count)) held
      | inr apart ↦ set_apart Q P d xs j k x apart (was.above j (omega arith) small)
    ];
  }

  pub none_turned_up : (xs : List X) (n : ℕ) → Row Q d xs n → Turned P Q d xs 0 n
  none_turned_up xs n row = record { count = row.count; below = λ j low small. absurd (omega arith); above = λ j high small. row.each j small }

  pub all_turned_up : (xs : List X) (k n : ℕ) → n ≤ k → Turned P Q d xs k n → Row P d xs n
  all_turned_up xs k n over was = record { count = was.count; each = λ j small. was.below j (omega arith) small }

  pub all_turned_down : (xs : List X) (k n : ℕ) → k ≡ 0 → Turned P Q d xs k n → Row Q d xs n
  all_turned_down xs k n none was = record { count = was.count; each = λ j small. was.above j (omega arith) small }

module _ {X : Type 0} (P : ℕ → X → Type 0) (d : X) where
  -- one element more
  pub row_longer : (xs : List X) (n : ℕ) (x : X) → Row P d xs n → P n x → Row P d (xs ++ x ∷ []) (n + 1)
  row_longer xs n x row held = record {
    count = length-append xs (x ∷ []) ∙ ap (λ (m : ℕ). m + 1) row.count;
    each = λ j small. elim (cases_lt j n) [
      | inl below ↦ subst (P j) (sym (get_or_append_left xs (x ∷ []) d j (omega (arith, row.count)))) (row.each j below)
      | inr above ↦
          let here : j ≡ n = omega arith in
          subst (λ (i : ℕ). P i (slice_index_or (xs ++ x ∷ []) i d)) (sym here) (subst (P n) (sym (get_or_push xs x d n row.count)) held)
    ];
  }

  -- the last one popped
  pub row_length : (old new : List X) (n : ℕ) (x : X) → Row P d old n → old ≡ new ++ x ∷ [] → length new + 1 ≡ n
  row_length old new n x row is = sym (length-append new (x ∷ [])) ∙ ap length (sym is) ∙ row.count

  pub row_shorter : (old new : List X) (n : ℕ) (x : X) → Row P d old n → old ≡ new ++ x ∷ [] → Row P d new (length new)
  row_shorter old new n x row is =
      let long = row_length old new n x row is in
      record {
        count = refl;
        each = λ j small.
            subst (P j) (ap (λ (xs : List X). slice_index_or xs j d) is ∙ get_or_append_left new (x ∷ []) d j small) (row.each j (omega (arith, long)));
      }

  pub row_last : (old new : List X) (n : ℕ) (x : X) → Row P d old n → old ≡ new ++ x ∷ [] → P (length new) x
  row_last old new n x row is =
      let long = row_length old new n x row is in
      subst (P (length new)) (ap (λ (xs : List X). slice_index_or xs (length new) d) is ∙ get_or_push new x d (length new) refl) (row.each (length new) (omega (arith, long)))
