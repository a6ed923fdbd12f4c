-- elements of lists
use Rattle.std.proofs.Common.{◌≡◌, ℕ, ◌⊎◌, inl, inr, Bool, true, ◌||◌, if◌then◌else◌, Option, Some, None, List, [], ◌∷◌, ◌++◌, map, refl, sym, ◌∙◌, ap}
use Rattle.std.proofs.lemmas.Bool.{or_left, or_right}
use Rattle.std.specs.List.{list_any, filter}
use Rattle.std.specs.Option.{option_to_list}
use Rattle.coast_station.specs.declared.casualties.OpenCasualty.{OpenCasualty}
use Rattle.coast_station.proofs.Births.{by_test}
use Rattle.coast_station.proofs.Listed.{listed_of}

-- this value is in the list
abbrev pub Among : {A : Type 0} → A → List A → Type 0
Among x [] = ⊥
Among x (y ∷ ys) = (x ≡ y) ⊎ Among x ys

module _ {A : Type 0} where
  pub among_here : (x : A) (front back : List A) → Among x (front ++ x ∷ back)
  among_here x [] back = inl refl
  among_here x (y ∷ front) back = inr (among_here x front back)

  pub among_append : (x : A) (xs ys : List A) → Among x (xs ++ ys) → Among x xs ⊎ Among x ys
  among_append x [] ys among = inr among
  among_append x (y ∷ xs) ys (inl same) = inl (inl same)
  among_append x (y ∷ xs) ys (inr among) = elim (among_append x xs ys among) [ inl there ↦ inl (inr there) | inr behind ↦ inr behind ]

  pub among_any : (p : A → Bool) (x : A) (xs : List A) → Among x xs → p x ≡ true → list_any p xs ≡ true
  among_any p x (y ∷ xs) (inl same) is = or_left (p y) (list_any p xs) (ap p (sym same) ∙ is)
  among_any p x (y ∷ xs) (inr among) is = or_right (p y) (list_any p xs) (among_any p x xs among is)
  among_any p x [] among is = absurd among

  pub among_kept : (p : A → Bool) (x : A) (xs : List A) → Among x (filter p xs) → Among x xs × (p x ≡ true)
  among_kept p x [] among = absurd among
  among_kept p x (y ∷ xs) among =
      by_test (p y) (λ b. p y ≡ b → Among x (if b then y ∷ filter p xs else filter p xs) → Among x (y ∷ xs) × (p x ≡ true))
      (λ _ is here. elim here [
        | inl same ↦ (inl same, ap p same ∙ is)
        | inr there ↦ let rest = among_kept p x xs there in (inr rest.0, rest.1)
      ])
      (λ _ _ there. let rest = among_kept p x xs there in (inr rest.0, rest.1))
      refl among

  -- where one is such, one that is
  pub some_among : (p : A → Bool) (xs : List A) → list_any p xs ≡ true → (x : A) × Among x xs × (p x ≡ true)
  some_among p (y ∷ xs) is =
      by_test (p y) (λ b. p y ≡ b → (b || list_any p xs) ≡ true → (x : A) × Among x (y ∷ xs) × (p x ≡ true))
      (λ _ here _. (y, inl refl, here))
      (λ _ _ there. let rest = some_among p xs there in (rest.0, inr rest.1, rest.2))
      refl is
  some_among p [] is = cc

module _ {A B : Type 0} where
  pub among_mapped : (f : A → B) (y : B) (xs : List A) → Among y (map f xs) → (x : A) × Among x xs × (y ≡ f x)
  among_mapped f y [] among = absurd among
  among_mapped f y (x ∷ xs) (inl same) = (x, inl refl, same)
  among_mapped f y (x ∷ xs) (inr among) = let rest = among_mapped f y xs among in (rest.0, inr rest.1, rest.2)

among_one : (told : ℕ → Option OpenCasualty) (x : OpenCasualty) (m : ℕ) (o : Option OpenCasualty) (rest : List OpenCasualty) → told m ≡ o
    → (Among x rest → (k : ℕ) × (told k ≡ Some x)) → Among x (option_to_list o ++ rest) → (k : ℕ) × (told k ≡ Some x)
among_one told x m None rest was others among = others among
among_one told x m (Some y) rest was others (inl same) = (m, was ∙ ap (λ (z : OpenCasualty). Some z) (sym same))
among_one told x m (Some y) rest was others (inr among) = others among

pub among_listed : (told : ℕ → Option OpenCasualty) (x : OpenCasualty) (ms : List ℕ) → Among x (listed_of told ms) → (k : ℕ) × (told k ≡ Some x)
among_listed told x [] among = absurd among
among_listed told x (m ∷ ms) among = among_one told x m (told m) (listed_of told ms) refl (among_listed told x ms) among
