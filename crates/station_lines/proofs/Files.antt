-- the first lines of a file, and the front of a text
use Rattle.std.proofs.Common.{◌≡◌, ◌⊎◌, inl, inr, List, [], ◌∷◌, ◌++◌, refl, sym, ap, ◌∙◌, append_assoc, append-nil}

module _ {A : Type 0} where
  pub not_empty : (xs : List A) (y : A) → [] ≡ xs ++ y ∷ [] → ⊥
  not_empty [] y e = cc
  not_empty (x ∷ xs) y e = cc

  pub no_more : (first later : List A) → [] ≡ first ++ later → first ≡ []
  no_more [] later e = refl
  no_more (x ∷ first) later e = absurd (cc)

  none_later : (first later : List A) → first ++ later ≡ [] → later ≡ []
  none_later [] later e = e
  none_later (x ∷ first) later e = absurd (cc)

  tails : {x y : A} {xs ys : List A} → x ∷ xs ≡ y ∷ ys → (x ≡ y) × (xs ≡ ys)
  tails e = (cc, cc)

  -- the last line is the first lines' own, or one of the later ones
  pub last_of : (first later before : List A) (last : A) → first ++ later ≡ before ++ last ∷ [] → (later ≡ []) ⊎ ((rest : List A) × (before ≡ first ++ rest))
  last_of [] later before last e = inr (before, refl)
  last_of (x ∷ first) later [] last e = inl (none_later first later (tails e).1)
  last_of (x ∷ first) later (b ∷ before) last e =
      elim (last_of first later before last (tails e).1) [
        | inl none ↦ inl none
        | inr rest ↦ inr (rest.0, ap (λ (h : A). h ∷ before) (sym (tails e).0) ∙ ap (λ (t : List A). x ∷ t) rest.1)
      ]

  pub begins_itself : (text : List A) → (back : List A) × (text ≡ text ++ back)
  begins_itself text = ([], sym (append-nil text))

  pub begins_further : (whole middle text : List A) → ((back : List A) × (whole ≡ middle ++ back)) → ((back : List A) × (middle ≡ text ++ back)) → (back : List A) × (whole ≡ text ++ back)
  begins_further whole middle text a b = (b.0 ++ a.0, a.1 ∙ ap (λ (t : List A). t ++ a.0) b.1 ∙ append_assoc text b.0 a.0)
