-- words: a byte at a time
use Rattle.std.proofs.Common.{◌≡◌, ℕ, suc, ◌<◌, List, [], ◌∷◌, ◌++◌, length, refl, ap, subst, arith}
use Rattle.line_grammar.specs.Columns.{Begins}
use Rattle.line_grammar.proofs.Stops.{Stops, left_le}

-- a language whose lines are a byte and then a line of another
pub record IsByte {V W : Type 0} (c : ℕ) (L : V → List ℕ → Type 0) (M : W → List ℕ → Type 0) : Type 0 where
  pub to : (v : V) (bytes : List ℕ) → L v bytes → (w : W) × M w (c ∷ bytes)
  pub back : (w : W) (bytes : List ℕ) → M w bytes → (rest : List ℕ) × (bytes ≡ c ∷ rest) × ((v : V) × L v rest)

byte_rest : {V W : Type 0} (c : ℕ) (L : V → List ℕ → Type 0) (M : W → List ℕ → Type 0) (bytes : List ℕ) (w : W) → IsByte c L M → M w (c ∷ bytes) → (v : V) × L v bytes
byte_rest c L M bytes w byte h = grind arith

byte_past : {V W : Type 0} (c : ℕ) (L : V → List ℕ → Type 0) (M : W → List ℕ → Type 0) (bytes : List ℕ) (left : ℕ) → IsByte c L M → Stops L bytes left
    → (p q : List ℕ) → c ∷ bytes ≡ p ++ q → length q < left → Begins M p → ⊥
byte_past c L M bytes left byte s [] q e short b = omega (arith, left_le L bytes left s, ap length e)
byte_past c L M bytes left byte s (x ∷ p) q e short b =
    let at : x ≡ c = cc in
    let rest : bytes ≡ p ++ q = cc in
    let l = byte_rest c L M (p ++ b.rest) b.value byte (subst (λ (y : ℕ). M b.value (y ∷ (p ++ b.rest))) at b.whole) in
    s.past p q rest short (record { value = l.0; rest = b.rest; whole = l.1 })

-- the fault after a byte is the fault
pub Stops-byte : {V W : Type 0} (c : ℕ) (L : V → List ℕ → Type 0) (M : W → List ℕ → Type 0) (bytes : List ℕ) (left : ℕ) → IsByte c L M → Stops L bytes left → Stops M (c ∷ bytes) left
Stops-byte c L M bytes left byte s =
    let b = byte.to s.begins.value (s.front ++ s.begins.rest) s.begins.whole in
    record {
      front = c ∷ s.front;
      back = s.back;
      list = ap (λ (l : List ℕ). c ∷ l) s.list;
      left_is = s.left_is;
      begins = record { value = b.0; rest = s.begins.rest; whole = b.1 };
      past = byte_past c L M bytes left byte s;
      none = λ w h. let l = byte_rest c L M bytes w byte h in s.none l.0 l.1;
    }

other_past : {V W : Type 0} (c x : ℕ) (L : V → List ℕ → Type 0) (M : W → List ℕ → Type 0) (bytes : List ℕ) → IsByte c L M → (x ≡ c → ⊥)
    → (p q : List ℕ) → x ∷ bytes ≡ p ++ q → length q < suc (length bytes) → Begins M p → ⊥
other_past c x L M bytes byte differs [] q e short b = omega (arith, ap length e)
other_past c x L M bytes byte differs (y ∷ p) q e short b =
    let k = byte.back b.value ((y ∷ p) ++ b.rest) b.whole in
    let f : y ∷ (p ++ b.rest) ≡ c ∷ k.0 = k.1 in
    differs (cc)

-- another byte stops at once
pub Stops-other : {V W : Type 0} (c x : ℕ) (L : V → List ℕ → Type 0) (M : W → List ℕ → Type 0) (bytes : List ℕ) (v : V) (example : List ℕ) → IsByte c L M → L v example → (x ≡ c → ⊥) → Stops M (x ∷ bytes) (suc (length bytes))
Stops-other c x L M bytes v example byte h differs =
    let b = byte.to v example h in
    record {
      front = [];
      back = x ∷ bytes;
      list = refl;
      left_is = refl;
      begins = record { value = b.0; rest = c ∷ example; whole = b.1 };
      past = other_past c x L M bytes byte differs;
      none = λ w m. let k = byte.back w (x ∷ bytes) m in let f : x ∷ bytes ≡ c ∷ k.0 = k.1 in differs (cc);
    }

-- the end stops there
pub Stops-short : {V W : Type 0} (c : ℕ) (L : V → List ℕ → Type 0) (M : W → List ℕ → Type 0) (v : V) (example : List ℕ) → IsByte c L M → L v example → Stops M [] 0
Stops-short c L M v example byte h = grind arith
