-- sections of lines: fields one after the other, and what follows them
use Rattle.std.proofs.Common.{◌≡◌, ℕ, ◌<◌, ◌^◌, true, List, ◌++◌, ◌⊎◌, inl, inr, refl, sym, ◌∙◌, ap, subst, append-nil, append_assoc, arith}
use Rattle.line_grammar.specs.Tokens.{Token, IsToken, shaped}
use Rattle.line_grammar.specs.Grammar.{Grammar, finish, word, field, either, Parts, none, part, first, second, Spells, AreParts, written}
use Rattle.line_grammar.specs.Shapes.{fixed_number, is_within, digits}
use Rattle.line_grammar.proofs.Digits.{one_number}

-- a token whose byte lists are the texts of the lawful values, one text for each
pub record TokenTexts {V : Type 0} (token : Token) (Lawful : V → Type 0) (text : V → List ℕ) : Type 0 where
  pub is : (v : V) → Lawful v → IsToken token (text v)
  pub of : (bytes : List ℕ) → IsToken token bytes → (v : V) × Lawful v × (bytes ≡ text v)
  pub one : (u v : V) → Lawful u → Lawful v → text u ≡ text v → u ≡ v

-- the numbers of some ranges
pub numbers : (width : ℕ) (ranges : List (ℕ × ℕ)) (Lawful : ℕ → Type 0) → ((n : ℕ) → Lawful n → is_within ranges n ≡ true) → ((n : ℕ) → is_within ranges n ≡ true → Lawful n)
    → ((n : ℕ) → Lawful n → n < 10 ^ width) → TokenTexts (shaped (fixed_number width ranges)) Lawful (digits width)
numbers width ranges Lawful inside lawful below = record {
  is = λ n h. (n, inside n h, refl);
  of = λ bytes h. (h.0, lawful h.0 h.1, h.2);
  one = λ m n h k e. one_number width m n (below m h) (below n k) e;
}

-- the parts of a field, of one of two, and of the end
field_is : (token : Token) (G : Grammar) (p : Parts) → AreParts (field token G) p → (front : List ℕ) × (q : Parts) × (p ≡ part front q) × IsToken token front × AreParts G q
field_is token G p h = grind arith

either_is : (left right : Grammar) (p : Parts) → AreParts (either left right) p → ((q : Parts) × (p ≡ first q) × AreParts left q) ⊎ ((q : Parts) × (p ≡ second q) × AreParts right q)
either_is left right p h = grind arith

-- a section has the parts of the lawful values, each value its own, and then those of what follows; and it is written
-- alike whatever follows it, and spelled so
pub record Section {V : Type 0} (G : Grammar → Grammar) (Lawful : V → Type 0) (parts : V → Parts → Parts) : Type 0 where
  pub is : (v : V) → Lawful v → (rest : Grammar) (q : Parts) → AreParts rest q → AreParts (G rest) (parts v q)
  pub of : (rest : Grammar) (p : Parts) → AreParts (G rest) p → (v : V) × (q : Parts) × Lawful v × (p ≡ parts v q) × AreParts rest q
  pub one : (u v : V) (p q : Parts) → Lawful u → Lawful v → parts u p ≡ parts v q → (u ≡ v) × (p ≡ q)
  pub split : (v : V) → Lawful v → (rest : Grammar) (q : Parts) → written (G rest) (parts v q) ≡ written (G finish) (parts v none) ++ written rest q
  pub front : (v : V) → Lawful v → (rest : Grammar) (q : Parts) (back : List ℕ) → Spells rest q back → Spells (G rest) (parts v q) (written (G finish) (parts v none) ++ back)

-- a form has the parts of the lawful values, each value its own
pub record Form {V : Type 0} (G : Grammar) (Lawful : V → Type 0) (parts : V → Parts) : Type 0 where
  pub is : (v : V) → Lawful v → AreParts G (parts v)
  pub of : (p : Parts) → AreParts G p → (v : V) × Lawful v × (p ≡ parts v)
  pub one : (u v : V) → Lawful u → Lawful v → parts u ≡ parts v → u ≡ v

-- a field
part_is : (a b : List ℕ) (p q : Parts) → part a p ≡ part b q → (a ≡ b) × (p ≡ q)
part_is a b p q e = (cc, cc)

pub fielded : {V : Type 0} {token : Token} {Lawful : V → Type 0} {text : V → List ℕ} → TokenTexts token Lawful text → Section (λ rest. field token rest) Lawful (λ v q. part (text v) q)
fielded {V = V} {token = token} {Lawful = Lawful} {text = text} told = record {
  is = λ v h rest q k. (told.is v h, k);
  of = λ rest p h. (let f = field_is token rest p h in let v = told.of f.0 f.3 in (v.0, f.1, v.1, f.2 ∙ ap (λ (l : List ℕ). part l f.1) v.2, f.4));
  one = λ u v p q h k e. (let both = part_is (text u) (text v) p q e in (told.one u v h k both.0, both.1));
  split = λ v h rest q. ap (λ (l : List ℕ). l ++ written rest q) (sym (append-nil (text v)));
  front = λ v h rest q back k. (told.is v h, (back, ap (λ (l : List ℕ). l ++ back) (append-nil (text v)), k));
}

-- a section after a word, which has no part
pub worded : {V : Type 0} {G : Grammar → Grammar} {Lawful : V → Type 0} {parts : V → Parts → Parts} (label : List ℕ) → Section G Lawful parts → Section (λ rest. word label (G rest)) Lawful parts
worded {G = G} {parts = parts} label s = record {
  is = s.is;
  of = s.of;
  one = s.one;
  split = λ v h rest q. ap (λ (l : List ℕ). label ++ l) (s.split v h rest q) ∙ sym (append_assoc label (written (G finish) (parts v none)) (written rest q));
  front = λ v h rest q back k. (let line = written (G finish) (parts v none) in (line ++ back, append_assoc label line back, s.front v h rest q back k));
}

-- a field after its label
pub labelled : {V : Type 0} {token : Token} {Lawful : V → Type 0} {text : V → List ℕ} (label : List ℕ) → TokenTexts token Lawful text → Section (λ rest. word label (field token rest)) Lawful (λ v q. part (text v) q)
labelled label told = worded label (fielded told)

-- nothing, as a section
pub nothing : Section {V = Unit {0}} (λ rest. rest) (λ (u : Unit {0}). Unit {0}) (λ u q. q)
nothing = grind arith

-- one section and then another
pub followed : {U V : Type 0} {G H : Grammar → Grammar} {P : U → Type 0} {Q : V → Type 0} {f : U → Parts → Parts} {g : V → Parts → Parts} → Section G P f → Section H Q g
    → Section (λ rest. G (H rest)) (λ (w : U × V). P w.0 × Q w.1) (λ (w : U × V) q. f w.0 (g w.1 q))
followed {U = U} {V = V} {G = G} {H = H} {P = P} {Q = Q} {f = f} {g = g} s t = record {
  is = λ w h rest q k. s.is w.0 h.0 (H rest) (g w.1 q) (t.is w.1 h.1 rest q k);
  of = λ rest p h.
      let a = s.of (H rest) p h in
      let b = t.of rest a.1 a.4 in
      ((a.0, b.0), b.1, (a.2, b.2), a.3 ∙ ap (λ (x : Parts). f a.0 x) b.3, b.4);
  one = λ u v p q h k e.
      let a = s.one u.0 v.0 (g u.1 p) (g v.1 q) h.0 k.0 e in
      let b = t.one u.1 v.1 p q h.1 k.1 a.1 in
      (ap (λ (x : U). (x, u.1)) a.0 ∙ ap (λ (y : V). (v.0, y)) b.0, b.1);
  split = λ w h rest q.
      let front = written (G finish) (f w.0 none) in
      let back = written (H finish) (g w.1 none) in
      s.split w.0 h.0 (H rest) (g w.1 q) ∙ ap (λ (l : List ℕ). front ++ l) (t.split w.1 h.1 rest q) ∙ sym (append_assoc front back (written rest q))
      ∙ ap (λ (l : List ℕ). l ++ written rest q) (sym (s.split w.0 h.0 (H finish) (g w.1 none)));
  front = λ w h rest q back k.
      let one = written (G finish) (f w.0 none) in
      let two = written (H finish) (g w.1 none) in
      subst (Spells (G (H rest)) (f w.0 (g w.1 q))) (sym (append_assoc one two back) ∙ ap (λ (l : List ℕ). l ++ back) (sym (s.split w.0 h.0 (H finish) (g w.1 none))))
      (s.front w.0 h.0 (H rest) (g w.1 q) (two ++ back) (t.front w.1 h.1 rest q back k));
}

-- one of two sections
abbrev pub LawfulSide : {U V : Type 0} → (U → Type 0) → (V → Type 0) → U ⊎ V → Type 0
LawfulSide P Q (inl u) = P u
LawfulSide P Q (inr v) = Q v

-- the parts of one of two forms
abbrev pub side_parts : {U V : Type 0} → (U → Parts → Parts) → (V → Parts → Parts) → U ⊎ V → Parts → Parts
side_parts f g (inl u) q = first (f u q)
side_parts f g (inr v) q = second (g v q)

side_is : {U V : Type 0} {G H : Grammar → Grammar} {P : U → Type 0} {Q : V → Type 0} {f : U → Parts → Parts} {g : V → Parts → Parts} → Section G P f → Section H Q g
    → (w : U ⊎ V) → LawfulSide P Q w → (rest : Grammar) (q : Parts) → AreParts rest q → AreParts (either (G rest) (H rest)) (side_parts f g w q)
side_is s t w h rest q k = grind arith

side_one : {U V : Type 0} {G H : Grammar → Grammar} {P : U → Type 0} {Q : V → Type 0} {f : U → Parts → Parts} {g : V → Parts → Parts} → Section G P f → Section H Q g
    → (a b : U ⊎ V) (p q : Parts) → LawfulSide P Q a → LawfulSide P Q b → side_parts f g a p ≡ side_parts f g b q → (a ≡ b) × (p ≡ q)
side_one s t a b p q h k e = grind arith

side_split : {U V : Type 0} {G H : Grammar → Grammar} {P : U → Type 0} {Q : V → Type 0} {f : U → Parts → Parts} {g : V → Parts → Parts} → Section G P f → Section H Q g
    → (w : U ⊎ V) → LawfulSide P Q w → (rest : Grammar) (q : Parts)
    → written (either (G rest) (H rest)) (side_parts f g w q) ≡ written (either (G finish) (H finish)) (side_parts f g w none) ++ written rest q
side_split s t w h rest q = grind arith

side_front : {U V : Type 0} {G H : Grammar → Grammar} {P : U → Type 0} {Q : V → Type 0} {f : U → Parts → Parts} {g : V → Parts → Parts} → Section G P f → Section H Q g
    → (w : U ⊎ V) → LawfulSide P Q w → (rest : Grammar) (q : Parts) (back : List ℕ) → Spells rest q back
    → Spells (either (G rest) (H rest)) (side_parts f g w q) (written (either (G finish) (H finish)) (side_parts f g w none) ++ back)
side_front s t w h rest q back k = grind arith

-- a section of one of two forms
pub sided : {U V : Type 0} {G H : Grammar → Grammar} {P : U → Type 0} {Q : V → Type 0} {f : U → Parts → Parts} {g : V → Parts → Parts} → Section G P f → Section H Q g
    → Section (λ rest. either (G rest) (H rest)) (LawfulSide P Q) (side_parts f g)
sided {G = G} {H = H} s t = record {
  is = side_is s t;
  of = λ rest p h.
      elim (either_is (G rest) (H rest) p h) [
        | inl l ↦ (let a = s.of rest l.0 l.2 in (inl a.0, a.1, a.2, l.1 ∙ ap first a.3, a.4))
        | inr r ↦ (let b = t.of rest r.0 r.2 in (inr b.0, b.1, b.2, r.1 ∙ ap second b.3, b.4))
      ];
  one = side_one s t;
  split = side_split s t;
  front = side_front s t;
}

-- a section under other names of its values
pub renamed : {V W : Type 0} {G : Grammar → Grammar} {P : W → Type 0} {Q : V → Type 0} {f : W → Parts → Parts} {g : V → Parts → Parts} → Section G P f
    → (told : V → W) → (back : W → V) → ((v : V) → Q v → P (told v)) → ((w : W) → P w → Q (back w)) → ((v : V) → Q v → back (told v) ≡ v)
    → ((v : V) → Q v → (q : Parts) → g v q ≡ f (told v) q) → ((w : W) → P w → (q : Parts) → g (back w) q ≡ f w q) → Section G Q g
renamed s told back lawful lawful_back again there here = grind arith

-- a section and no more
pub closed : {V : Type 0} {G : Grammar → Grammar} {Lawful : V → Type 0} {parts : V → Parts → Parts} → Section G Lawful parts → Form (G finish) Lawful (λ v. parts v none)
closed s = grind arith
