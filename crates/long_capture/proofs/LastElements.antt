-- the last 1,600 of a list, when some are put after them
use Rattle.std.proofs.Common.{◌≡◌, ◌≢◌, ℕ, ◌+◌, ◌-◌, ◌<◌, ◌≤◌, List, [], ◌∷◌, ◌++◌, length, take, drop, set, get_or, inl, inr, arith, ap, sym, ◌∙◌, length-append, get_or-set_other, get_or-set_same}
use Rattle.std.proofs.lemmas.Bool.{cases_lt}
use Rattle.std.proofs.lemmas.List.{ext_get_or, length-take-le, length-drop, length-set, get_or-take, get_or-drop, get_or_append_left, get_or-append_right, drop-drop, drop-append-le}
use Rattle.std.proofs.lemmas.Slice.{between_is}

module _ {X : Type 0} where
  -- the elements before the first index that is free
  abbrev pub last_of : List X → ℕ → List X
  last_of buffer end = take 1600 (drop (end - 1600) buffer)

  pub length-last : (buffer : List X) (end : ℕ) → 1600 ≤ end → end ≤ length buffer → length (last_of buffer end) ≡ 1600
  length-last buffer end low high = length-take-le 1600 (drop (end - 1600) buffer) (omega (arith, length-drop (end - 1600) buffer))

  pub at_last : (d : X) (buffer : List X) (end i : ℕ) → i < 1600 → get_or (last_of buffer end) i d ≡ get_or buffer (end - 1600 + i) d
  at_last d buffer end i below = get_or-take 1600 (drop (end - 1600) buffer) i d below ∙ get_or-drop (end - 1600) buffer i d

  -- an element of a window when another is put after it
  pub pushed_before : (d : X) (w : List X) (x : X) (i : ℕ) → length w ≡ 1600 → i < 1599 → get_or (drop 1 w ++ x ∷ []) i d ≡ get_or w (1 + i) d
  pushed_before d w x i long below =
      get_or_append_left (drop 1 w) (x ∷ []) d i (omega (arith, length-drop 1 w)) ∙ get_or-drop 1 w i d

  pub pushed_last : (d : X) (w : List X) (x : X) → length w ≡ 1600 → get_or (drop 1 w ++ x ∷ []) 1599 d ≡ x
  pushed_last d w x long =
      let short : length (drop 1 w) ≡ 1599 = omega (arith, length-drop 1 w) in
      get_or-append_right (drop 1 w) (x ∷ []) 1599 1599 d short (omega arith)

  pub length-pushed : (w : List X) (x : X) → length w ≡ 1600 → length (drop 1 w ++ x ∷ []) ≡ 1600
  length-pushed w x long = omega (arith, length-append (drop 1 w) (x ∷ []), length-drop 1 w)

  -- an element that is written where the window ends
  pub window_more : (d : X) (buffer : List X) (end : ℕ) (x : X) → 1600 ≤ end → end < length buffer → last_of (set buffer end x) (end + 1) ≡ drop 1 (last_of buffer end) ++ x ∷ []
  window_more d buffer end x low high =
      let long = length-last buffer end low (omega arith) in
      let size : end + 1 ≤ length (set buffer end x) = omega (arith, length-set buffer end x) in
      let sized = length-last (set buffer end x) (end + 1) (omega arith) size in
      ext_get_or d _ _ (sized ∙ sym (length-pushed (last_of buffer end) x long))
      (λ i below.
      let few : i < 1600 = omega (arith, sized) in
      at_last d (set buffer end x) (end + 1) i few
      ∙ elim (cases_lt i 1599) as (λ _. get_or (set buffer end x) (end + 1 - 1600 + i) d ≡ get_or (drop 1 (last_of buffer end) ++ x ∷ []) i d) [
        | inl before ↦
            let other : end + 1 - 1600 + i ≢ end = omega arith in
            let index : end + 1 - 1600 + i ≡ end - 1600 + (1 + i) = omega arith in
            get_or-set_other buffer end (end + 1 - 1600 + i) x d other ∙ ap (λ (n : ℕ). get_or buffer n d) index
            ∙ sym (at_last d buffer end (1 + i) (omega arith))
            ∙ sym (pushed_before d (last_of buffer end) x i long before)
        | inr last ↦
            let here : end + 1 - 1600 + i ≡ end = omega arith in
            let at : 1599 ≡ i = omega arith in
            ap (λ (n : ℕ). get_or (set buffer end x) n d) here ∙ get_or-set_same buffer end x d high
            ∙ sym (pushed_last d (last_of buffer end) x long)
            ∙ ap (λ (n : ℕ). get_or (drop 1 (last_of buffer end) ++ x ∷ []) n d) at
      ])

  -- ---- when several are put after it

  last_is : (buffer : List X) (end : ℕ) → 1600 ≤ end → last_of buffer end ≡ drop (end - 1600) (take end buffer)
  last_is buffer end low =
      let size : 1600 ≡ end - (end - 1600) = omega arith in
      ap (λ (n : ℕ). take n (drop (end - 1600) buffer)) size ∙ between_is buffer (end - 1600) end

  -- elements that are written from where the window ends on
  pub window_put : (buffer new : List X) (end n : ℕ) (ys : List X) → 1600 ≤ end → end ≤ length buffer → take (end + n) new ≡ take end buffer ++ ys
      → last_of new (end + n) ≡ drop n (last_of buffer end ++ ys)
  window_put buffer new end n ys low high put =
      let front = take end buffer in
      let first : end + n - 1600 ≡ end - 1600 + n = omega arith in
      last_is new (end + n) (omega arith) ∙ ap (drop (end + n - 1600)) put
      ∙ ap (λ (k : ℕ). drop k (front ++ ys)) first
      ∙ sym (drop-drop n (end - 1600) (front ++ ys))
      ∙ ap (drop n) (drop-append-le (end - 1600) front ys (omega (arith, length-take-le end buffer high)) ∙ ap (λ (l : List X). l ++ ys) (sym (last_is buffer end low)))

  pub length-put : (w ys : List X) (n : ℕ) → length w ≡ 1600 → length ys ≡ n → length (drop n (w ++ ys)) ≡ 1600
  length-put w ys n long size = omega (arith, length-drop n (w ++ ys), length-append w ys)
