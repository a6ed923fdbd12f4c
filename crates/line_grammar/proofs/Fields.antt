-- a token and what follows it
use Rattle.std.proofs.Common.{◌≡◌, ℕ, ◌<◌, true, false, List, [], ◌∷◌, ◌++◌, length, inl, inr, sym, ◌∙◌, ap, subst, arith, append_assoc, length-append}
use Rattle.std.proofs.lemmas.Bool.{and_parts, not-true}
use Rattle.plain_laws.proofs.Lists.{split}
use Rattle.line_grammar.specs.Tokens.{Token, IsToken}
use Rattle.line_grammar.specs.Grammar.{Grammar, finish, anything, word, field, either, Parts, none, part, first, second, Spells}
use Rattle.line_grammar.specs.inside.Soundness.{may_have, may_follow}
use Rattle.line_grammar.proofs.Stops.{Stops}
use Rattle.line_grammar.proofs.Tokens.{Munches, Misses}
use Rattle.line_grammar.proofs.Munching.{has}

-- no line of what follows a token begins with a byte of it
pub follows : (token : Token) (G : Grammar) (parts : Parts) (y : ℕ) (s : List ℕ) → may_follow token G ≡ true → Spells G parts (y ∷ s) → may_have token y ≡ false
follows token finish none y s h k = absurd (cc)
follows token anything parts y s h k = absurd (cc)
follows token (word [] rest) parts y s h k =
    let e : y ∷ s ≡ k.0 = k.1 in
    follows token rest parts y s h (subst (λ (l : List ℕ). Spells rest parts l) (sym e) k.2)
follows token (word (c ∷ text) rest) parts y s h k =
    let e : y ∷ s ≡ c ∷ (text ++ k.0) = k.1 in
    let same : c ≡ y = cc in
    subst (λ (b : ℕ). may_have token b ≡ false) same (not-true (may_have token c) h)
follows token (field other rest) parts y s h k = absurd (cc)
follows token (either left right) (first parts) y s h k = follows token left parts y s (and_parts (may_follow token left) (may_follow token right) h).0 k
follows token (either left right) (second parts) y s h k = follows token right parts y s (and_parts (may_follow token left) (may_follow token right) h).1 k
follows token finish (part a b) y s h k = absurd k
follows token finish (first a) y s h k = absurd k
follows token finish (second a) y s h k = absurd k
follows token (either left right) none y s h k = absurd k
follows token (either left right) (part a b) y s h k = absurd k

-- the parts of a field
pub record IsField (token : Token) (G : Grammar) (bytes : List ℕ) : Type 0 where
  pub front : List ℕ
  pub back : List ℕ
  pub parts : Parts
  pub is_token : IsToken token front
  pub list : bytes ≡ front ++ back
  pub spelled : Spells G parts back

-- a text that begins with a token has it as its field
pub field_of : (token : Token) (G : Grammar) (parts : Parts) (bytes : List ℕ) → Spells (field token G) parts bytes → IsField token G bytes
field_of token G parts bytes h = grind arith

seam_after : (token : Token) (bytes front back z a s t : List ℕ) → IsToken token a → Munches token bytes front back
    → ((x : ℕ) (rest : List ℕ) → z ≡ x ∷ rest → (more : List ℕ) × (back ≡ x ∷ more)) → a ≡ front ++ t → z ≡ t ++ s → s ≡ z
seam_after token bytes front back z a s [] is m heads e f = sym f
seam_after token bytes front back z a s (y ∷ t) is m heads e f =
    let more = heads y (t ++ s) f in
    absurd (m.longer y more.0 t more.1 (subst (λ (l : List ℕ). IsToken token l) e is))

-- where a token was read, every line that goes on as the bytes do has this token
seam : (token : Token) (G : Grammar) (bytes front back z : List ℕ) (f : IsField token G (front ++ z)) → may_follow token G ≡ true → Munches token bytes front back
    → ((x : ℕ) (rest : List ℕ) → z ≡ x ∷ rest → (more : List ℕ) × (back ≡ x ∷ more)) → f.back ≡ z
seam token G bytes front back z f follow m heads =
    elim (split f.front f.back front z (sym f.list)) [
      | inl h ↦ seam_after token bytes front back z f.front f.back h.0 f.is_token m heads h.1 h.2
      | inr h ↦
          let no = follows token G f.parts h.0 (h.1 ++ z) follow (subst (λ (l : List ℕ). Spells G f.parts l) h.3 f.spelled) in
          let yes = has token front f.front h.1 h.0 m.is_token h.2 in
          absurd (cc)
    ]

-- the fault after a token is the fault
field_past : (token : Token) (G : Grammar) (bytes front back : List ℕ) (left : ℕ) → may_follow token G ≡ true → Munches token bytes front back → Stops (Spells G) back left
    → (d q r : List ℕ) → back ≡ d ++ q → length q < left → IsField token G (front ++ (d ++ r)) → ⊥
field_past token G bytes front back left follow m s [] q r e short f =
    omega (arith, ap length e, ap length s.list, length-append s.front s.back, s.left_is)
field_past token G bytes front back left follow m s (x ∷ d) q r e short f =
    let heads : (y : ℕ) (rest : List ℕ) → (x ∷ d) ++ r ≡ y ∷ rest → (more : List ℕ) × (back ≡ y ∷ more) =
    λ y rest k. (d ++ q, (let same : x ≡ y = cc in e ∙ ap (λ (b : ℕ). b ∷ (d ++ q)) same)) in
    let same = seam token G bytes front back ((x ∷ d) ++ r) f follow m heads in
    s.past (x ∷ d) q e short (record { value = f.parts; rest = r; whole = subst (λ (l : List ℕ). Spells G f.parts l) same f.spelled })

front_past : (token : Token) (G : Grammar) (bytes front back : List ℕ) (left : ℕ) → may_follow token G ≡ true → Munches token bytes front back → Stops (Spells G) back left
    → (p q r : List ℕ) → bytes ≡ p ++ q → length q < left → IsField token G (p ++ r) → ⊥
front_past token G bytes front back left follow m s p q r e short f =
    elim (split p q front back (sym e ∙ m.list)) [
      | inl h ↦
          let g = subst (λ (l : List ℕ). IsField token G (l ++ r)) h.1 f in
          field_past token G bytes front back left follow m s h.0 q r h.2 short
          (subst (λ (l : List ℕ). IsField token G l) (append_assoc front h.0 r) g)
      | inr h ↦ omega (arith, ap length h.3, length-append h.1 back, ap length s.list, length-append s.front s.back, s.left_is)
    ]

pub Stops-field : (token : Token) (G : Grammar) (bytes front back : List ℕ) (left : ℕ) → may_follow token G ≡ true → Munches token bytes front back → Stops (Spells G) back left → Stops (Spells (field token G)) bytes left
Stops-field token G bytes front back left follow m s = record {
  front = front ++ s.front;
  back = s.back;
  list = m.list ∙ ap (λ (l : List ℕ). front ++ l) s.list ∙ sym (append_assoc front s.front s.back);
  left_is = s.left_is;
  begins = record {
    value = part front s.begins.value;
    rest = s.begins.rest;
    whole = (m.is_token, (s.front ++ s.begins.rest, append_assoc front s.front s.begins.rest, s.begins.whole));
  };
  past = λ p q e short b. front_past token G bytes front back left follow m s p q b.rest e short (field_of token G b.value (p ++ b.rest) b.whole);
  none = λ w h.
      let f = field_of token G w bytes h in
      let g = subst (λ (l : List ℕ). IsField token G l) m.list f in
      let same = seam token G bytes front back back g follow m (λ x rest e. (rest, e)) in
      s.none g.parts (subst (λ (l : List ℕ). Spells G g.parts l) same g.spelled);
}

-- where there is no token, its fault is the fault
miss_past : (token : Token) (G : Grammar) (bytes : List ℕ) (left : ℕ) → Misses token bytes left → (p q r : List ℕ) → bytes ≡ p ++ q → length q < left → IsField token G (p ++ r) → ⊥
miss_past token G bytes left m p q r e short f =
    elim (split f.front f.back p r (sym f.list)) [
      | inl h ↦ m.past p q h.0 e short (subst (λ (l : List ℕ). IsToken token l) h.1 f.is_token)
      | inr h ↦ m.none f.front ((h.0 ∷ h.1) ++ q) (e ∙ ap (λ (l : List ℕ). l ++ q) h.2 ∙ append_assoc f.front (h.0 ∷ h.1) q) f.is_token
    ]

pub Stops-miss : (token : Token) (G : Grammar) (bytes : List ℕ) (left : ℕ) (parts : Parts) (example : List ℕ) → Spells G parts example → Misses token bytes left → Stops (Spells (field token G)) bytes left
Stops-miss token G bytes left parts example spelled m = record {
  front = m.front;
  back = m.back;
  list = m.list;
  left_is = m.left_is;
  begins = record {
    value = part (m.front ++ m.begins.0) parts;
    rest = m.begins.0 ++ example;
    whole = (m.begins.1, (example, sym (append_assoc m.front m.begins.0 example), spelled));
  };
  past = λ p q e short b. miss_past token G bytes left m p q b.rest e short (field_of token G b.value (p ++ b.rest) b.whole);
  none = λ w h. let f = field_of token G w bytes h in m.none f.front f.back f.list f.is_token;
}
