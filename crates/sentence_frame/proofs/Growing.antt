-- sentences grow by a text at a time
use Rattle.std.proofs.Common.{◌≡◌, ℕ, List, [], ◌∷◌, ◌++◌, sym, ◌∙◌, ap, append_assoc}
use Rattle.std.proofs.lemmas.List.{append-nil}
use Rattle.std.proofs.lemmas.Grind.{flat_map-append}
use Rattle.sentence_frame.specs.Frames.{behind_commas}

-- bytes that are a head and these texts after commas
pub record IsGrown (head : List ℕ) (ts : List (List ℕ)) (items : List ℕ) : Type 0 where
  pub is : items ≡ head ++ behind_commas ts

pub grown_none : (head items : List ℕ) → items ≡ head → IsGrown head [] items
grown_none head items e = record { is = e ∙ sym (append-nil head) }

pub grown_more : (head : List ℕ) (ts : List (List ℕ)) (items t new : List ℕ) → IsGrown head ts items → new ≡ items ++ 44 ∷ t → IsGrown head (ts ++ t ∷ []) new
grown_more head ts items t new g e = record {
  is =
      e ∙ ap (λ (l : List ℕ). l ++ 44 ∷ t) g.is ∙ append_assoc head (behind_commas ts) (44 ∷ t)
      ∙ ap (λ (l : List ℕ). head ++ l) (ap (λ (l : List ℕ). behind_commas ts ++ (44 ∷ l)) (sym (append-nil t)) ∙ sym (flat_map-append (λ (text : List ℕ). 44 ∷ text) ts (t ∷ [])));
}
