-- how a reader of a part of a line goes on from byte to byte
use Rattle.std.proofs.Common.{◌≡◌, ℕ, zero, suc, ◌+◌, ◌-◌, ◌*◌, ◌<◌, ◌≤◌, Bool, true, false, ◌==◌, ◌&&◌, if◌then◌else◌, List, [], ◌∷◌, ◌++◌, length, Result, Ok, Err, refl, sym, ap, subst, arith, length-append}
use Rattle.std.proofs.lemmas.Bool.{and_parts, and_from, eqb-true, eqb-false}
use Rattle.line_grammar.specs.Tokens.{is_digit}
use Rattle.line_grammar.specs.inside.Reading.{after, behind, and_letters, fits, read_numeral}
use Rattle.line_grammar.proofs.ShapesNumerals.{digits_none, are_all, Numbered, numbered_some, numbered_none, numbered_more, numbered_next}

-- no such part is there, and this many bytes are left where none goes on
pub record Fails (P : List ℕ → Type 0) (bytes : List ℕ) (left : ℕ) : Type 0 where
  pub front : List ℕ
  pub back : List ℕ
  pub list : bytes ≡ front ++ back
  pub left_is : length back ≡ left
  pub begins : (rest : List ℕ) × P (front ++ rest)
  pub past : (p q rest : List ℕ) → bytes ≡ p ++ q → length q < left → P (p ++ rest) → ⊥
  pub none : (a s : List ℕ) → bytes ≡ a ++ s → P a → ⊥

-- what a reader of such a part answers
abbrev pub Finds : (P : List ℕ → Type 0) (bytes : List ℕ) → Result (List ℕ × List ℕ) ℕ → Type 0
Finds P bytes (Ok (front, back)) = (bytes ≡ front ++ back) × P front
Finds P bytes (Err left) = Fails P bytes left

pub fails_le : (P : List ℕ → Type 0) (bytes : List ℕ) (left : ℕ) → Fails P bytes left → left ≤ length bytes
fails_le P bytes left f = omega (arith, ap length f.list, length-append f.front f.back, f.left_is)

-- the same parts have the same answers
pub finds_alike : (P Q : List ℕ → Type 0) (bytes : List ℕ) (r : Result (List ℕ × List ℕ) ℕ) → ((l : List ℕ) → P l → Q l) → ((l : List ℕ) → Q l → P l) → Finds P bytes r → Finds Q bytes r
finds_alike P Q bytes r to from h = grind arith

-- the end stops there
end_none : (Q : List ℕ → Type 0) → (Q [] → ⊥) → (a s : List ℕ) → [] ≡ a ++ s → Q a → ⊥
end_none Q nothing [] s e k = nothing k
end_none Q nothing (x ∷ a) s e k = absurd (cc)

fails_end : (Q : List ℕ → Type 0) (example : List ℕ) → Q example → (Q [] → ⊥) → Fails Q [] 0
fails_end Q example is nothing = record {
  front = [];
  back = [];
  list = refl;
  left_is = refl;
  begins = (example, is);
  past = λ p q rest e short k. omega arith;
  none = end_none Q nothing;
}

-- a byte with which none begins stops at once
other_past : (Q : List ℕ → Type 0) (b : ℕ) (bytes : List ℕ) → ((l : List ℕ) → Q (b ∷ l) → ⊥) → (p q rest : List ℕ) → b ∷ bytes ≡ p ++ q → length q < suc (length bytes) → Q (p ++ rest) → ⊥
other_past Q b bytes never [] q rest e short k = omega (arith, ap length e)
other_past Q b bytes never (x ∷ p) q rest e short k =
    let same : x ≡ b = cc in
    never (p ++ rest) (subst (λ (c : ℕ). Q (c ∷ (p ++ rest))) same k)

other_none : (Q : List ℕ → Type 0) (b : ℕ) (bytes : List ℕ) → (Q [] → ⊥) → ((l : List ℕ) → Q (b ∷ l) → ⊥) → (a s : List ℕ) → b ∷ bytes ≡ a ++ s → Q a → ⊥
other_none Q b bytes nothing never [] s e k = nothing k
other_none Q b bytes nothing never (x ∷ a) s e k =
    let same : x ≡ b = cc in
    never a (subst (λ (c : ℕ). Q (c ∷ a)) same k)

fails_other : (Q : List ℕ → Type 0) (b : ℕ) (bytes example : List ℕ) → Q example → (Q [] → ⊥) → ((l : List ℕ) → Q (b ∷ l) → ⊥) → Fails Q (b ∷ bytes) (suc (length bytes))
fails_other Q b bytes example is nothing never = record {
  front = [];
  back = b ∷ bytes;
  list = refl;
  left_is = refl;
  begins = (example, is);
  past = other_past Q b bytes never;
  none = other_none Q b bytes nothing never;
}

-- after a byte
byte_past : (P Q : List ℕ → Type 0) (b : ℕ) (bytes : List ℕ) (left : ℕ) → ((l : List ℕ) → Q (b ∷ l) → P l) → Fails P bytes left → (p q rest : List ℕ) → b ∷ bytes ≡ p ++ q → length q < left → Q (p ++ rest) → ⊥
byte_past P Q b bytes left from f [] q rest e short k = omega (arith, fails_le P bytes left f, ap length e)
byte_past P Q b bytes left from f (x ∷ p) q rest e short k =
    let same : x ≡ b = cc in
    let list : bytes ≡ p ++ q = cc in
    f.past p q rest list short (from (p ++ rest) (subst (λ (c : ℕ). Q (c ∷ (p ++ rest))) same k))

byte_none : (P Q : List ℕ → Type 0) (b : ℕ) (bytes : List ℕ) (left : ℕ) → (Q [] → ⊥) → ((l : List ℕ) → Q (b ∷ l) → P l) → Fails P bytes left → (a s : List ℕ) → b ∷ bytes ≡ a ++ s → Q a → ⊥
byte_none P Q b bytes left nothing from f [] s e k = nothing k
byte_none P Q b bytes left nothing from f (x ∷ a) s e k =
    let same : x ≡ b = cc in
    let list : bytes ≡ a ++ s = cc in
    f.none a s list (from a (subst (λ (c : ℕ). Q (c ∷ a)) same k))

finds_byte : (P Q : List ℕ → Type 0) (b : ℕ) (bytes : List ℕ) (r : Result (List ℕ × List ℕ) ℕ) → (Q [] → ⊥) → ((l : List ℕ) → P l → Q (b ∷ l)) → ((l : List ℕ) → Q (b ∷ l) → P l)
    → Finds P bytes r → Finds Q (b ∷ bytes) (behind (b ∷ []) r)
finds_byte P Q b bytes (Ok (front, back)) nothing to from h = (ap (λ (l : List ℕ). b ∷ l) h.0, to front h.1)
finds_byte P Q b bytes (Err left) nothing to from f = record {
  front = b ∷ f.front;
  back = f.back;
  list = ap (λ (l : List ℕ). b ∷ l) f.list;
  left_is = f.left_is;
  begins = (f.begins.0, to (f.front ++ f.begins.0) f.begins.1);
  past = byte_past P Q b bytes left from f;
  none = byte_none P Q b bytes left nothing from f;
}

-- letters
abbrev Is : List ℕ → List ℕ → Type 0
Is text bytes = bytes ≡ text

letters_behind : (b : ℕ) (text : List ℕ) (r : Result (List ℕ) ℕ) → behind (b ∷ []) (and_letters text r) ≡ and_letters (b ∷ text) r
letters_behind b text r = grind arith

letters_step : (c b : ℕ) (text bytes : List ℕ) (t : Bool) → (b == c) ≡ t → Finds (Is text) bytes (and_letters text (after text bytes))
    → Finds (Is (c ∷ text)) (b ∷ bytes) (and_letters (c ∷ text) (if t then after text bytes else Err (suc (length bytes))))
letters_step c b text bytes true e h =
    let same = eqb-true b c e in
    subst (λ (x : ℕ). Finds (Is (x ∷ text)) (b ∷ bytes) (and_letters (x ∷ text) (after text bytes))) same
    (subst (λ (r : Result (List ℕ × List ℕ) ℕ). Finds (Is (b ∷ text)) (b ∷ bytes) r) (letters_behind b text (after text bytes))
    (finds_byte (Is text) (Is (b ∷ text)) b bytes (and_letters text (after text bytes)) (λ (k : [] ≡ b ∷ text). absurd (cc)) (λ l k. ap (λ (m : List ℕ). b ∷ m) k) (λ l (k : b ∷ l ≡ b ∷ text). cc) h))
letters_step c b text bytes false e h =
    fails_other (Is (c ∷ text)) b bytes (c ∷ text) refl (λ (k : [] ≡ c ∷ text). absurd (cc)) (λ l (k : b ∷ l ≡ c ∷ text). eqb-false b c e (cc))

pub letters_read : (text bytes : List ℕ) → Finds (Is text) bytes (and_letters text (after text bytes))
unfolding after
letters_read [] bytes = (refl, refl)
letters_read (c ∷ text) [] = fails_end (Is (c ∷ text)) (c ∷ text) refl (λ (k : [] ≡ c ∷ text). absurd (cc))
letters_read (c ∷ text) (b ∷ bytes) = letters_step c b text bytes (b == c) refl (letters_read text bytes)

-- numerals
numeral_step : (width more : ℕ) (ranges : List (ℕ × ℕ)) (n b : ℕ) (bytes : List ℕ) (t : Bool) → (is_digit b && fits more ranges (10 * n + (b - 48))) ≡ t → are_all width ranges ≡ true
    → (example : List ℕ) → Numbered (suc more) ranges n example
    → (((some : List ℕ) → Numbered more ranges (10 * n + (b - 48)) some → Finds (Numbered more ranges (10 * n + (b - 48))) bytes (read_numeral more ranges (10 * n + (b - 48)) bytes)))
    → Finds (Numbered (suc more) ranges n) (b ∷ bytes) (if t then behind (b ∷ []) (read_numeral more ranges (10 * n + (b - 48)) bytes) else Err (suc (length bytes)))
numeral_step width more ranges n b bytes true e all example is go =
    let next = 10 * n + (b - 48) in
    let k = and_parts (is_digit b) (fits more ranges next) e in
    let some = numbered_some width more ranges next all k.1 in
    finds_byte (Numbered more ranges next) (Numbered (suc more) ranges n) b bytes (read_numeral more ranges next bytes) (numbered_none more ranges n)
    (λ l h. numbered_more more ranges n b l k.0 h) (λ l h. let x = numbered_next more ranges n b l h in x.rest) (go some.0 some.1)
numeral_step width more ranges n b bytes false e all example is go =
    fails_other (Numbered (suc more) ranges n) b bytes example is (numbered_none more ranges n)
    (λ l h.
    let x = numbered_next more ranges n b l h in
    let yes = and_from (is_digit b) (fits more ranges (10 * n + (b - 48))) x.digit x.goes_on in
    absurd (cc))

numeral_end : (ranges : List (ℕ × ℕ)) (n : ℕ) (example : List ℕ) → Numbered 0 ranges n example → Numbered 0 ranges n []
numeral_end ranges n example h = (h.0, h.1, h.2, sym (digits_none h.0))

pub numeral_read : (width more : ℕ) (ranges : List (ℕ × ℕ)) (n : ℕ) (bytes : List ℕ) → are_all width ranges ≡ true → (example : List ℕ) → Numbered more ranges n example
    → Finds (Numbered more ranges n) bytes (read_numeral more ranges n bytes)
unfolding read_numeral
numeral_read width zero ranges n bytes all example is = (refl, numeral_end ranges n example is)
numeral_read width (suc more) ranges n [] all example is = fails_end (Numbered (suc more) ranges n) example is (numbered_none more ranges n)
numeral_read width (suc more) ranges n (b ∷ bytes) all example is =
    numeral_step width more ranges n b bytes (is_digit b && fits more ranges (10 * n + (b - 48))) refl all example is
    (λ some k. numeral_read width more ranges (10 * n + (b - 48)) bytes all some k)
