-- lists, and after them so many of one value that there are 64; what follows in a list
use Rattle.std.proofs.Common.{◌≡◌, ℕ, ◌+◌, ◌-◌, ◌<◌, min, List, ◌++◌, length, take, drop, get_or, inl, inr, refl, arith, ap, sym, ◌∙◌, length-append}
use Rattle.std.proofs.Math.ListN.{replicate}
use Rattle.std.proofs.lemmas.Bool.{cases_lt}
use Rattle.std.proofs.lemmas.List.{get_or_past, get_or_append_left, get_or-append_right, get_or-drop, get_or-replicate, length-drop, length-replicate, take_rest}

module _ {X : Type 0} where
  pub padded_at : (xs : List X) (d : X) (i : ℕ) → i < 64 → get_or (xs ++ drop (length xs) (replicate 64 d)) i d ≡ get_or xs i d
  padded_at xs d i below =
      elim (cases_lt i (length xs)) as (λ _. get_or (xs ++ drop (length xs) (replicate 64 d)) i d ≡ get_or xs i d) [
        | inl inside ↦ get_or_append_left xs (drop (length xs) (replicate 64 d)) d i inside
        | inr past ↦
            let index : length xs + (i - length xs) ≡ i = omega arith in
            get_or-append_right xs (drop (length xs) (replicate 64 d)) (length xs) i d refl past
            ∙ get_or-drop (length xs) (replicate 64 d) (i - length xs) d
            ∙ ap (λ (n : ℕ). get_or (replicate 64 d) n d) index
            ∙ get_or-replicate 64 i d d below
            ∙ sym (get_or_past xs i d past)
      ]

  pub padded_length : (xs : List X) (d : X) → length xs < 64 → length (xs ++ drop (length xs) (replicate 64 d)) ≡ 64
  padded_length xs d few = omega (arith, few, length-append xs (drop (length xs) (replicate 64 d)), length-drop (length xs) (replicate 64 d), length-replicate 64 d)

  -- an item of what follows
  pub in_rest : (xs : List X) (d : X) (begin from i : ℕ) → from ≡ min begin (length xs) → get_or xs (begin + i) d ≡ get_or (take (length xs - from) (drop from xs)) i d
  in_rest xs d begin from i is =
      elim (cases_lt begin (length xs)) as (λ _. get_or xs (begin + i) d ≡ get_or (drop from xs) i d) [
        | inl inside ↦
            let same : begin + i ≡ from + i = omega arith in
            ap (λ (n : ℕ). get_or xs n d) same ∙ sym (get_or-drop from xs i d)
        | inr past ↦
            get_or_past xs (begin + i) d (omega arith) ∙ sym (get_or-drop from xs i d ∙ get_or_past xs (from + i) d (omega arith))
      ]
      ∙ ap (λ (l : List X). get_or l i d) (sym (take_rest xs from))
