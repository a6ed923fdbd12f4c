-- Lists: fronts of one list, a list in another's place, and a list that holds nothing.
use Rattle.std.proofs.Common.{◌≡◌, ℕ, ◌≤◌, List, [], ◌∷◌, ◌++◌, length, take, drop, Contains, ◌⊎◌, inl, inr, refl, sym, ap, ◌∙◌, arith, append-nil}
use Rattle.std.proofs.Math.Seq.{take-append_seam}
use Rattle.std.proofs.lemmas.List.{drop_all, take_all, take-append-drop, take-append-le}

-- of two fronts of one list, one begins the other
pub split : (a r b s : List ℕ) → a ++ r ≡ b ++ s
    → ((t : List ℕ) × (a ≡ b ++ t) × (s ≡ t ++ r)) ⊎ ((y : ℕ) × (t : List ℕ) × (b ≡ a ++ (y ∷ t)) × (r ≡ y ∷ (t ++ s)))
split a r [] s e = inl (a, refl, sym e)
split [] r (y ∷ b) s e = inr (y, b, refl, e)
split (x ∷ a) r (y ∷ b) s e =
    let k : x ≡ y = cc in
    let m : a ++ r ≡ b ++ s = cc in
    elim (split a r b s m) [
      | inl h ↦ (let h1 : a ≡ b ++ h.0 = h.1 in inl (h.0, (cc), h.2))
      | inr h ↦ (let h2 : b ≡ a ++ (h.0 ∷ h.1) = h.2 in inr (h.0, h.1, (cc), h.3))
    ]

-- the shorter of two fronts of one list begins the longer
pub divide : (a b r s : List ℕ) → a ++ r ≡ b ++ s → length a ≤ length b → b ≡ a ++ drop (length a) b
divide a b r s e le =
    let front : a ≡ take (length a) b = sym (take-append_seam a r) ∙ ap (λ (x : List ℕ). take (length a) x) e ∙ take-append-le (length a) b s le in
    sym (take-append-drop (length a) b) ∙ ap (λ (x : List ℕ). x ++ drop (length a) b) (sym front)

-- a list that was lent whole, and that came back as long
pub lent_whole : (X : Type 0) (items new : List X) (len : ℕ) → len ≡ length items → length new ≡ length items → take len (new ++ drop (length new) items) ≡ new
lent_whole X items new len is same =
    ap (λ (rest : List X). take len (new ++ rest)) (drop_all (length new) items (omega arith))
    ∙ ap (take len) (append-nil new)
    ∙ take_all len new (omega arith)

-- a list without elements holds none
pub holds_none : {X : Type 0} (x : X) → Contains [] x → ⊥
holds_none x held = absurd (let small = held.1 in omega (arith, small))
