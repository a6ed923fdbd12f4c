-- where a reader stops: how many bytes are left, and its column
use Rattle.std.proofs.Common.{◌≡◌, ℕ, ◌+◌, ◌<◌, ◌≤◌, min, List, ◌++◌, length, take, drop, Result, Ok, Err, ◌⊎◌, inl, inr, sym, ◌∙◌, ap, subst, append_assoc, arith, length-append, length-drop}
use Rattle.std.proofs.lemmas.List.{take-append-drop, take-append-le}
use Rattle.std.proofs.lemmas.Bool.{cases_lt}
use Rattle.line_grammar.specs.Columns.{Begins, IsColumn}

-- the bytes leave the language where this many are left
pub record Stops {W : Type 0} (L : W → List ℕ → Type 0) (bytes : List ℕ) (left : ℕ) : Type 0 where
  pub front : List ℕ
  pub back : List ℕ
  pub list : bytes ≡ front ++ back
  pub left_is : length back ≡ left
  pub begins : Begins L front
  pub past : (p q : List ℕ) → bytes ≡ p ++ q → length q < left → Begins L p → ⊥
  pub none : (w : W) → L w bytes → ⊥

-- what a reader of a rest of a line answers
abbrev pub Reads : {W : Type 0} (L : W → List ℕ → Type 0) (bytes : List ℕ) → Result W ℕ → Type 0
Reads L bytes (Ok w) = L w bytes
Reads L bytes (Err left) = Stops L bytes left

-- no more bytes are left than there are
pub left_le : {W : Type 0} (L : W → List ℕ → Type 0) (bytes : List ℕ) (left : ℕ) → Stops L bytes left → left ≤ length bytes
left_le L bytes left s = omega (arith, ap length s.list, length-append s.front s.back, s.left_is)

Begins-take : {W : Type 0} (L : W → List ℕ → Type 0) (front : List ℕ) (k : ℕ) → Begins L front → Begins L (take k front)
Begins-take L front k b = record {
  value = b.value;
  rest = drop k front ++ b.rest;
  whole = subst (L b.value) (ap (λ (l : List ℕ). l ++ b.rest) (sym (take-append-drop k front)) ∙ append_assoc (take k front) (drop k front) b.rest) b.whole;
}

-- how many are left gives the column
pub IsColumn-stops : {W : Type 0} (L : W → List ℕ → Type 0) (bytes : List ℕ) (left n : ℕ) → Stops L bytes left → n + left ≡ length bytes + 1 → IsColumn L bytes n
IsColumn-stops L bytes left n s e =
    let long : length bytes ≡ length s.front + left = ap length s.list ∙ length-append s.front s.back ∙ ap (λ (k : ℕ). length s.front + k) s.left_is in
    record {
      is_none = s.none;
      before =
          λ k below.
          let inside : k ≤ length s.front = omega arith in
          let same : take k bytes ≡ take k s.front = ap (take k) s.list ∙ take-append-le k s.front s.back inside in
          subst (λ (l : List ℕ). Begins L l) (sym same) (Begins-take L s.front k s.begins);
      at =
          λ inside b.
          let short : length (drop n bytes) < left = omega (arith, length-drop n bytes) in
          s.past (take n bytes) (drop n bytes) (sym (take-append-drop n bytes)) short b;
      within = omega arith;
    }

-- a language that has the lines of two and no other
pub record IsChoice {U V W : Type 0} (L : U → List ℕ → Type 0) (M : V → List ℕ → Type 0) (N : W → List ℕ → Type 0) : Type 0 where
  pub left : (u : U) (bytes : List ℕ) → L u bytes → (w : W) × N w bytes
  pub right : (v : V) (bytes : List ℕ) → M v bytes → (w : W) × N w bytes
  pub back : (w : W) (bytes : List ℕ) → N w bytes → ((u : U) × L u bytes) ⊎ ((v : V) × M v bytes)

-- the fault of a choice is the further one
pub Stops-choice : {U V W : Type 0} (L : U → List ℕ → Type 0) (M : V → List ℕ → Type 0) (N : W → List ℕ → Type 0) (bytes : List ℕ) (m n : ℕ) → IsChoice L M N → Stops L bytes m → Stops M bytes n → Stops N bytes (min m n)
Stops-choice L M N bytes m n both s t =
    let past : (p q : List ℕ) → bytes ≡ p ++ q → length q < min m n → Begins N p → ⊥ =
    λ p q e short b.
    elim (both.back b.value (p ++ b.rest) b.whole) [
      | inl l ↦ s.past p q e (omega arith) (record { value = l.0; rest = b.rest; whole = l.1 })
      | inr r ↦ t.past p q e (omega arith) (record { value = r.0; rest = b.rest; whole = r.1 })
    ] in
    let none : (w : _) → N w bytes → ⊥ =
    λ w h. elim (both.back w bytes h) [ inl l ↦ s.none l.0 l.1 | inr r ↦ t.none r.0 r.1 ] in
    elim (cases_lt m n) [
      | inl less ↦
          let b = both.left s.begins.value (s.front ++ s.begins.rest) s.begins.whole in
          record {
            front = s.front;
            back = s.back;
            list = s.list;
            left_is = (omega (arith, s.left_is));
            begins = record { value = b.0; rest = s.begins.rest; whole = b.1 };
            past = past;
            none = none;
          }
      | inr more ↦
          let b = both.right t.begins.value (t.front ++ t.begins.rest) t.begins.whole in
          record {
            front = t.front;
            back = t.back;
            list = t.list;
            left_is = (omega (arith, t.left_is));
            begins = record { value = b.0; rest = t.begins.rest; whole = b.1 };
            past = past;
            none = none;
          }
    ]

-- the same lines have the same faults
pub record IsAlike {V W : Type 0} (L : V → List ℕ → Type 0) (M : W → List ℕ → Type 0) : Type 0 where
  pub to : (v : V) (bytes : List ℕ) → L v bytes → (w : W) × M w bytes
  pub back : (w : W) (bytes : List ℕ) → M w bytes → (v : V) × L v bytes

-- a fault of the one is a fault of the other
pub Stops-alike : {V W : Type 0} (L : V → List ℕ → Type 0) (M : W → List ℕ → Type 0) (bytes : List ℕ) (left : ℕ) → IsAlike L M → Stops L bytes left → Stops M bytes left
Stops-alike L M bytes left same s =
    let b = same.to s.begins.value (s.front ++ s.begins.rest) s.begins.whole in
    record {
      front = s.front;
      back = s.back;
      list = s.list;
      left_is = s.left_is;
      begins = record { value = b.0; rest = s.begins.rest; whole = b.1 };
      past = λ p q e short m. let l = same.back m.value (p ++ m.rest) m.whole in s.past p q e short (record { value = l.0; rest = m.rest; whole = l.1 });
      none = λ w h. let l = same.back w bytes h in s.none l.0 l.1;
    }
