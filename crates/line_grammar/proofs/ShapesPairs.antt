-- one part of a line after another, and one of two
use Rattle.std.proofs.Common.{◌≡◌, ℕ, ◌<◌, min, List, ◌∷◌, ◌++◌, length, Result, Ok, Err, ◌⊎◌, inl, inr, refl, sym, ◌∙◌, ap, subst, append_assoc, arith, length-append}
use Rattle.std.proofs.lemmas.Bool.{cases_lt}
use Rattle.std.proofs.lemmas.List.{append_cancel_left}
use Rattle.plain_laws.proofs.Lists.{split}
use Rattle.line_grammar.specs.inside.Reading.{behind, and_shape, further}
use Rattle.line_grammar.proofs.ShapesReading.{Fails, Finds, fails_le}

-- a part and then another
abbrev pub Pair : (P Q : List ℕ → Type 0) → List ℕ → Type 0
Pair P Q bytes = (front : List ℕ) × (back : List ℕ) × (bytes ≡ front ++ back) × P front × Q back

-- where two such parts begin one list they are the same
abbrev pub IsOne : (P : List ℕ → Type 0) → Type 0
IsOne P = (a r b s : List ℕ) → P a → P b → a ++ r ≡ b ++ s → a ≡ b

-- where the first part fails
left_past : (P Q : List ℕ → Type 0) (bytes : List ℕ) (left : ℕ) → Fails P bytes left → (p q rest : List ℕ) → bytes ≡ p ++ q → length q < left → Pair P Q (p ++ rest) → ⊥
left_past P Q bytes left f p q rest e short k =
    elim (split k.0 k.1 p rest (sym k.2)) [
      | inl h ↦ f.past p q h.0 e short (subst P h.1 k.3)
      | inr h ↦ f.none k.0 ((h.0 ∷ h.1) ++ q) (e ∙ ap (λ (l : List ℕ). l ++ q) h.2 ∙ append_assoc k.0 (h.0 ∷ h.1) q) k.3
    ]

fails_left : (P Q : List ℕ → Type 0) (bytes : List ℕ) (left : ℕ) (example : List ℕ) → Q example → Fails P bytes left → Fails (Pair P Q) bytes left
fails_left P Q bytes left example is f = record {
  front = f.front;
  back = f.back;
  list = f.list;
  left_is = f.left_is;
  begins = (f.begins.0 ++ example, (f.front ++ f.begins.0, example, sym (append_assoc f.front f.begins.0 example), f.begins.1, is));
  past = left_past P Q bytes left f;
  none = λ a s e k. f.none k.0 (k.1 ++ s) (e ∙ ap (λ (l : List ℕ). l ++ s) k.2 ∙ append_assoc k.0 k.1 s) k.3;
}

-- where the second part fails
behind_front : (P : List ℕ → Type 0) (front back x y : List ℕ) → IsOne P → P front → P x → front ++ back ≡ x ++ y → back ≡ y
behind_front P front back x y one is h e =
    let same = one front back x y is h e in
    append_cancel_left x back y (ap (λ (l : List ℕ). l ++ back) (sym same) ∙ e)

right_past : (P Q : List ℕ → Type 0) (bytes front back : List ℕ) (left : ℕ) → IsOne P → bytes ≡ front ++ back → P front → Fails Q back left
    → (p q rest : List ℕ) → bytes ≡ p ++ q → length q < left → Pair P Q (p ++ rest) → ⊥
right_past P Q bytes front back left one list is f p q rest e short k =
    elim (split p q front back (sym e ∙ list)) [
      | inl h ↦
          let whole : front ++ (h.0 ++ rest) ≡ k.0 ++ k.1 = sym (append_assoc front h.0 rest) ∙ ap (λ (l : List ℕ). l ++ rest) (sym h.1) ∙ k.2 in
          let same = behind_front P front (h.0 ++ rest) k.0 k.1 one is k.3 whole in
          f.past h.0 q rest h.2 short (subst Q (sym same) k.4)
      | inr h ↦ omega (arith, ap length h.3, length-append h.1 back, fails_le Q back left f)
    ]

fails_right : (P Q : List ℕ → Type 0) (bytes front back : List ℕ) (left : ℕ) → IsOne P → bytes ≡ front ++ back → P front → Fails Q back left → Fails (Pair P Q) bytes left
fails_right P Q bytes front back left one list is f = record {
  front = front ++ f.front;
  back = f.back;
  list = list ∙ ap (λ (l : List ℕ). front ++ l) f.list ∙ sym (append_assoc front f.front f.back);
  left_is = f.left_is;
  begins = (f.begins.0, (front, f.front ++ f.begins.0, append_assoc front f.front f.begins.0, is, f.begins.1));
  past = right_past P Q bytes front back left one list is f;
  none = λ a s e k.
      let whole : front ++ back ≡ k.0 ++ (k.1 ++ s) = sym list ∙ e ∙ ap (λ (l : List ℕ). l ++ s) k.2 ∙ append_assoc k.0 k.1 s in
      let same = behind_front P front back k.0 (k.1 ++ s) one is k.3 whole in
      f.none k.1 s same k.4;
}

right_found : (P Q : List ℕ → Type 0) (bytes front back : List ℕ) (r : Result (List ℕ × List ℕ) ℕ) → IsOne P → bytes ≡ front ++ back → P front → Finds Q back r → Finds (Pair P Q) bytes (behind front r)
right_found P Q bytes front back (Ok (more, rest)) one list is h =
    (list ∙ ap (λ (l : List ℕ). front ++ l) h.0 ∙ sym (append_assoc front more rest), (front, more, refl, is, h.1))
right_found P Q bytes front back (Err left) one list is f = fails_right P Q bytes front back left one list is f

pub pair_read : (P Q : List ℕ → Type 0) (bytes : List ℕ) (r : Result (List ℕ × List ℕ) ℕ) (right : List ℕ → Result (List ℕ × List ℕ) ℕ) (example : List ℕ) → IsOne P → Q example → Finds P bytes r
    → ((back : List ℕ) → Finds Q back (right back)) → Finds (Pair P Q) bytes (and_shape r right)
pair_read P Q bytes (Ok (front, back)) right example one is h go = right_found P Q bytes front back (right back) one h.0 h.1 (go back)
pair_read P Q bytes (Err left) right example one is f go = fails_left P Q bytes left example is f

-- one of two
abbrev pub Either : (P Q : List ℕ → Type 0) → List ℕ → Type 0
Either P Q bytes = P bytes ⊎ Q bytes

both_past : (P Q : List ℕ → Type 0) (bytes : List ℕ) (m n : ℕ) → Fails P bytes m → Fails Q bytes n → (p q rest : List ℕ) → bytes ≡ p ++ q → length q < min m n → Either P Q (p ++ rest) → ⊥
both_past P Q bytes m n f g p q rest e short h = grind arith

both_none : (P Q : List ℕ → Type 0) (bytes : List ℕ) (m n : ℕ) → Fails P bytes m → Fails Q bytes n → (a s : List ℕ) → bytes ≡ a ++ s → Either P Q a → ⊥
both_none P Q bytes m n f g a s e h = grind arith

fails_both : (P Q : List ℕ → Type 0) (bytes : List ℕ) (m n : ℕ) → Fails P bytes m → Fails Q bytes n → Fails (Either P Q) bytes (min m n)
fails_both P Q bytes m n f g =
    elim (cases_lt m n) [
      | inl less ↦
          record {
            front = f.front;
            back = f.back;
            list = f.list;
            left_is = (omega (arith, f.left_is));
            begins = (f.begins.0, inl f.begins.1);
            past = both_past P Q bytes m n f g;
            none = both_none P Q bytes m n f g;
          }
      | inr more ↦
          record {
            front = g.front;
            back = g.back;
            list = g.list;
            left_is = (omega (arith, g.left_is));
            begins = (g.begins.0, inr g.begins.1);
            past = both_past P Q bytes m n f g;
            none = both_none P Q bytes m n f g;
          }
    ]

pub choice_read : (P Q : List ℕ → Type 0) (bytes : List ℕ) (r s : Result (List ℕ × List ℕ) ℕ) → Finds P bytes r → Finds Q bytes s → Finds (Either P Q) bytes (further r s)
choice_read P Q bytes (Ok (front, back)) s h k = (h.0, inl h.1)
choice_read P Q bytes (Err m) (Ok (front, back)) h k = (k.0, inr k.1)
choice_read P Q bytes (Err m) (Err n) h k = fails_both P Q bytes m n h k
