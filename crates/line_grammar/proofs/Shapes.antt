-- the laws of shapes: what they have, where they begin, and that one ends where it does
use Rattle.std.proofs.Common.{◌≡◌, ℕ, zero, suc, ◌+◌, ◌-◌, ◌*◌, ◌/◌, ◌%◌, ◌^◌, Bool, true, false, not, ◌==◌, ◌&&◌, ◌||◌, if◌then◌else◌, List, [], ◌∷◌, ◌++◌, length, Option, Some, Result, Ok, Err, inl, inr, refl, sym, ◌∙◌, ap, subst, append_assoc, append-nil, codes, arith, length-append}
use Rattle.std.specs.List.{list_all}
use Rattle.std.proofs.lemmas.Bool.{and_parts, and_from, or_left, or_right, or_cases, eq-eqb, eqb-true, not-true}
use Rattle.std.proofs.lemmas.List.{append_cancel_left}
use Rattle.std.proofs.lemmas.List.Folds.{list_all-append, list_any-append}
use Rattle.plain_laws.proofs.Lists.{split}
use Rattle.line_grammar.specs.Shapes.{Shape, letters, fixed_number, pair, choice, digits, is_within, IsShaped}
use Rattle.line_grammar.specs.Tokens.{is_one_of, is_digit, shaped}
use Rattle.line_grammar.specs.inside.Reading.{fits, read_shape}
use Rattle.line_grammar.specs.inside.Soundness.{shape_may_have, firsts, may_begin, begin_apart, both_widths, one_width, is_width, width_of, are_as_wide, leading, part_ways, are_apart, are_ranges, is_some_shape}
use Rattle.line_grammar.proofs.Tokens.{TokenReads}
use Rattle.line_grammar.proofs.ShapesNumerals.{are_all_of, digits_all, digits_length, digits_first, numbered_start, numbered_next, some_numeral, Numbered}
use Rattle.line_grammar.proofs.ShapesReading.{Finds, finds_alike, letters_read, numeral_read}
use Rattle.line_grammar.proofs.ShapesPairs.{IsOne, pair_read, choice_read}

-- each byte of a shape is one that it may have
all_more : (p q : ℕ → Bool) (bytes : List ℕ) → ((b : ℕ) → p b ≡ true → q b ≡ true) → list_all p bytes ≡ true → list_all q bytes ≡ true
all_more p q [] more h = refl
all_more p q (b ∷ bytes) more h =
    let k = and_parts (p b) (list_all p bytes) h in
    and_from (q b) (list_all q bytes) (more b k.0) (all_more p q bytes more k.1)

all_letters : (text : List ℕ) → list_all (is_one_of text) text ≡ true
all_letters [] = refl
all_letters (c ∷ text) =
    and_from (is_one_of (c ∷ text) c) (list_all (is_one_of (c ∷ text)) text) (or_left (c == c) (is_one_of text c) (eq-eqb c c refl))
    (all_more (is_one_of text) (is_one_of (c ∷ text)) text (λ b h. or_right (c == b) (is_one_of text b) h) (all_letters text))

pub shape_has : (shape : Shape) (bytes : List ℕ) → IsShaped shape bytes → list_all (shape_may_have shape) bytes ≡ true
shape_has (letters text) bytes h = subst (λ (l : List ℕ). list_all (is_one_of text) l ≡ true) (sym h) (all_letters text)
shape_has (fixed_number width ranges) bytes h = subst (λ (l : List ℕ). list_all is_digit l ≡ true) (sym h.2) (digits_all width h.0)
shape_has (pair left right) bytes h =
    let p = shape_may_have (pair left right) in
    let front = all_more (shape_may_have left) p h.0 (λ b k. or_left (shape_may_have left b) (shape_may_have right b) k) (shape_has left h.0 h.3) in
    let back = all_more (shape_may_have right) p h.1 (λ b k. or_right (shape_may_have left b) (shape_may_have right b) k) (shape_has right h.1 h.4) in
    ap (list_all p) h.2 ∙ list_all-append p h.0 h.1 ∙ and_from (list_all p h.0) (list_all p h.1) front back
shape_has (choice left right) bytes (inl h) =
    all_more (shape_may_have left) (shape_may_have (choice left right)) bytes (λ b k. or_left (shape_may_have left b) (shape_may_have right b) k) (shape_has left bytes h)
shape_has (choice left right) bytes (inr h) =
    all_more (shape_may_have right) (shape_may_have (choice left right)) bytes (λ b k. or_right (shape_may_have left b) (shape_may_have right b) k) (shape_has right bytes h)

-- a shape begins with a byte that may begin it
pub record Begun (shape : Shape) (bytes : List ℕ) : Type 0 where
  pub byte : ℕ
  pub rest : List ℕ
  pub list : bytes ≡ byte ∷ rest
  pub begins : may_begin shape byte ≡ true
  pub is_first : is_one_of (firsts shape) byte ≡ true

digit_first : (b : ℕ) → is_digit b ≡ true → is_one_of (codes "0123456789") b ≡ true
digit_first b h = grind arith

begun_numeral : (more : ℕ) (ranges : List (ℕ × ℕ)) (n : ℕ) (bytes : List ℕ) → are_ranges (suc more) ranges ≡ true → is_within ranges n ≡ true → bytes ≡ digits (suc more) n → Begun (fixed_number (suc more) ranges) bytes
begun_numeral more ranges n bytes some h e =
    let b = 48 + n / 10 ^ more % 10 in
    let list = e ∙ digits_first more n in
    let numbered = numbered_start (suc more) ranges n (b ∷ digits more n) (are_all_of (suc more) ranges some) h (sym (digits_first more n)) in
    let next = numbered_next more ranges 0 b (digits more n) numbered in
    let same : 10 * 0 + (b - 48) ≡ b - 48 = omega arith in
    let goes : fits more ranges (b - 48) ≡ true = subst (λ (m : ℕ). fits more ranges m ≡ true) same next.goes_on in
    record {
      byte = b;
      rest = digits more n;
      list = list;
      begins = and_from (is_digit b) (fits more ranges (b - 48)) next.digit goes;
      is_first = digit_first b next.digit;
    }

pub begun : (shape : Shape) (bytes : List ℕ) → is_some_shape shape ≡ true → IsShaped shape bytes → Begun shape bytes
begun (letters []) bytes some h = absurd (cc)
begun (letters (c ∷ text)) bytes some h = record { byte = c; rest = text; list = h; begins = eq-eqb c c refl; is_first = or_left (c == c) false (eq-eqb c c refl) }
begun (fixed_number zero ranges) bytes some h = absurd (cc)
begun (fixed_number (suc more) ranges) bytes some h = begun_numeral more ranges h.0 bytes some h.1 h.2
begun (pair left right) bytes some h =
    let b = begun left h.0 (and_parts (is_some_shape left) (is_some_shape right) some).0 h.3 in
    record { byte = b.byte; rest = b.rest ++ h.1; list = h.2 ∙ ap (λ (l : List ℕ). l ++ h.1) b.list; begins = b.begins; is_first = b.is_first }
begun (choice left right) bytes some (inl h) =
    let k = and_parts (are_apart left right) (is_some_shape left && is_some_shape right) some in
    let b = begun left bytes (and_parts (is_some_shape left) (is_some_shape right) k.1).0 h in
    record {
      byte = b.byte;
      rest = b.rest;
      list = b.list;
      begins = or_left (may_begin left b.byte) (may_begin right b.byte) b.begins;
      is_first = list_any-append (λ c. c == b.byte) (firsts left) (firsts right) ∙ or_left (is_one_of (firsts left) b.byte) (is_one_of (firsts right) b.byte) b.is_first;
    }
begun (choice left right) bytes some (inr h) =
    let k = and_parts (are_apart left right) (is_some_shape left && is_some_shape right) some in
    let b = begun right bytes (and_parts (is_some_shape left) (is_some_shape right) k.1).1 h in
    record {
      byte = b.byte;
      rest = b.rest;
      list = b.list;
      begins = or_right (may_begin left b.byte) (may_begin right b.byte) b.begins;
      is_first = list_any-append (λ c. c == b.byte) (firsts left) (firsts right) ∙ or_right (is_one_of (firsts left) b.byte) (is_one_of (firsts right) b.byte) b.is_first;
    }

pub no_shape : (shape : Shape) → is_some_shape shape ≡ true → IsShaped shape [] → ⊥
no_shape shape some h = let b = begun shape [] some h in let e : [] ≡ b.byte ∷ b.rest = b.list in absurd (cc)

-- shapes whose first bytes differ have no list in common
all_at : (p : ℕ → Bool) (bytes : List ℕ) (b : ℕ) → list_all p bytes ≡ true → is_one_of bytes b ≡ true → p b ≡ true
all_at p [] b h k = absurd (cc)
all_at p (c ∷ bytes) b h k =
    let both = and_parts (p c) (list_all p bytes) h in
    elim (or_cases (c == b) (is_one_of bytes b) k) [
      | inl here ↦ subst (λ (x : ℕ). p x ≡ true) (eqb-true c b here) both.0
      | inr there ↦ all_at p bytes b both.1 there
    ]

apart : (left right : Shape) (a r b s : List ℕ) → begin_apart left right ≡ true → is_some_shape left ≡ true → is_some_shape right ≡ true → IsShaped left a → IsShaped right b → a ++ r ≡ b ++ s → ⊥
apart left right a r b s h some_left some_right is_a is_b e =
    let x = begun left a some_left is_a in
    let y = begun right b some_right is_b in
    let list : x.byte ∷ (x.rest ++ r) ≡ y.byte ∷ (y.rest ++ s) = ap (λ (l : List ℕ). l ++ r) (sym x.list) ∙ e ∙ ap (λ (l : List ℕ). l ++ s) y.list in
    let same : y.byte ≡ x.byte = cc in
    let no = not-true (may_begin left x.byte && may_begin right x.byte) (all_at (λ c. not (may_begin left c && may_begin right c)) (firsts left) x.byte h x.is_first) in
    let yes = and_from (may_begin left x.byte) (may_begin right x.byte) x.begins (subst (λ (c : ℕ). may_begin right c ≡ true) same y.begins) in
    absurd (cc)

-- fronts of one length
no_more : (a b t : List ℕ) → length a ≡ length b → a ≡ b ++ t → a ≡ b
no_more a b [] long e = e ∙ append-nil b
no_more a b (x ∷ t) long e = let none : ⊥ = omega (arith, ap length e, length-append b (x ∷ t)) in absurd none

same_length : (a r b s : List ℕ) → length a ≡ length b → a ++ r ≡ b ++ s → a ≡ b
same_length a r b s long e =
    elim (split a r b s e) [
      | inl h ↦ no_more a b h.0 long h.1
      | inr h ↦ sym (no_more b a (h.0 ∷ h.1) (sym long) h.2)
    ]

-- shapes whose letters part have no list in common
part_step : (c d : ℕ) (text other r s : List ℕ) (t : Bool) → (c == d) ≡ t → (if t then part_ways text other else true) ≡ true → c ∷ (text ++ r) ≡ d ∷ (other ++ s)
    → (part_ways text other ≡ true → text ++ r ≡ other ++ s → ⊥) → ⊥
part_step c d text other r s t k h e go = grind arith

pub part_fronts : (text other r s : List ℕ) → part_ways text other ≡ true → text ++ r ≡ other ++ s → ⊥
part_fronts [] other r s h e = absurd (cc)
part_fronts (c ∷ text) [] r s h e = absurd (cc)
part_fronts (c ∷ text) (d ∷ other) r s h e = part_step c d text other r s (c == d) refl h e (part_fronts text other r s)

leads : (shape : Shape) (bytes : List ℕ) → IsShaped shape bytes → (rest : List ℕ) × (bytes ≡ leading shape ++ rest)
leads (letters text) bytes h = ([], h ∙ sym (append-nil text))
leads (fixed_number width ranges) bytes h = (bytes, refl)
leads (pair left right) bytes h =
    let f = leads left h.0 h.3 in
    (f.0 ++ h.1, h.2 ∙ ap (λ (l : List ℕ). l ++ h.1) f.1 ∙ append_assoc (leading left) f.0 h.1)
leads (choice left right) bytes h = (bytes, refl)

part : (left right : Shape) (a r b s : List ℕ) → part_ways (leading left) (leading right) ≡ true → IsShaped left a → IsShaped right b → a ++ r ≡ b ++ s → ⊥
part left right a r b s h is_a is_b e =
    let x = leads left a is_a in
    let y = leads right b is_b in
    part_fronts (leading left) (leading right) (x.0 ++ r) (y.0 ++ s) h (
    sym (append_assoc (leading left) x.0 r) ∙ ap (λ (l : List ℕ). l ++ r) (sym x.1) ∙ e ∙ ap (λ (l : List ℕ). l ++ s) y.1 ∙ append_assoc (leading right) y.0 s)

-- the widths of shapes
both_is : (a b : Option ℕ) (n : ℕ) → both_widths a b ≡ Some n → (x : ℕ) × (y : ℕ) × (a ≡ Some x) × (b ≡ Some y) × (x + y ≡ n)
both_is a b n h = grind arith

one_is : (a b : Option ℕ) (n : ℕ) → one_width a b ≡ Some n → (a ≡ Some n) × (b ≡ Some n)
one_is a b n h = grind arith

wide : (shape : Shape) (bytes : List ℕ) (n : ℕ) → width_of shape ≡ Some n → IsShaped shape bytes → length bytes ≡ n
wide (letters text) bytes n e h = let same : length text ≡ n = cc in ap length h ∙ same
wide (fixed_number width ranges) bytes n e h = let same : width ≡ n = cc in ap length h.2 ∙ digits_length width h.0 ∙ same
wide (pair left right) bytes n e h =
    let w = both_is (width_of left) (width_of right) n e in
    omega (arith, ap length h.2, length-append h.0 h.1, wide left h.0 w.0 w.2 h.3, wide right h.1 w.1 w.3 h.4, w.4)
wide (choice left right) bytes n e (inl h) = wide left bytes n (one_is (width_of left) (width_of right) n e).0 h
wide (choice left right) bytes n e (inr h) = wide right bytes n (one_is (width_of left) (width_of right) n e).1 h

width_is : (w : Option ℕ) → is_width w ≡ true → (n : ℕ) × (w ≡ Some n)
width_is w h = grind arith

as_wide : (left right : Shape) (a b : List ℕ) → are_as_wide left right ≡ true → IsShaped left a → IsShaped right b → length a ≡ length b
as_wide left right a b h is_a is_b =
    let n = width_is (one_width (width_of left) (width_of right)) h in
    let both = one_is (width_of left) (width_of right) n.0 n.1 in
    wide left a n.0 both.0 is_a ∙ sym (wide right b n.0 both.1 is_b)

-- shapes that are apart have no list of which a list of the other is a front
one_side : (left right : Shape) (a r b s : List ℕ) → (begin_apart left right || (are_as_wide left right || part_ways (leading left) (leading right))) ≡ true
    → is_some_shape left ≡ true → is_some_shape right ≡ true → IsShaped left a → IsShaped right b → a ++ r ≡ b ++ s → a ≡ b
one_side left right a r b s h some_left some_right is_a is_b e =
    elim (or_cases (begin_apart left right) (are_as_wide left right || part_ways (leading left) (leading right)) h) [
      | inl k ↦ absurd (apart left right a r b s k some_left some_right is_a is_b e)
      | inr more ↦ (elim (or_cases (are_as_wide left right) (part_ways (leading left) (leading right)) more) [
        | inl k ↦ same_length a r b s (as_wide left right a b k is_a is_b) e
        | inr k ↦ absurd (part left right a r b s k is_a is_b e)
      ])
    ]

sides_one : (left right : Shape) (a r b s : List ℕ) → are_apart left right ≡ true → is_some_shape left ≡ true → is_some_shape right ≡ true → IsShaped left a → IsShaped right b → a ++ r ≡ b ++ s → a ≡ b
sides_one left (letters text) a r b s h some_left some_right is_a is_b e = one_side left (letters text) a r b s h some_left some_right is_a is_b e
sides_one left (fixed_number width ranges) a r b s h some_left some_right is_a is_b e = one_side left (fixed_number width ranges) a r b s h some_left some_right is_a is_b e
sides_one left (pair one other) a r b s h some_left some_right is_a is_b e = one_side left (pair one other) a r b s h some_left some_right is_a is_b e
sides_one left (choice one other) a r b s h some_left some_right is_a (inl is_b) e =
    let some = and_parts (is_some_shape one) (is_some_shape other) (and_parts (are_apart one other) (is_some_shape one && is_some_shape other) some_right).1 in
    sides_one left one a r b s (and_parts (are_apart left one) (are_apart left other) h).0 some_left some.0 is_a is_b e
sides_one left (choice one other) a r b s h some_left some_right is_a (inr is_b) e =
    let some = and_parts (is_some_shape one) (is_some_shape other) (and_parts (are_apart one other) (is_some_shape one && is_some_shape other) some_right).1 in
    sides_one left other a r b s (and_parts (are_apart left one) (are_apart left other) h).1 some_left some.1 is_a is_b e

-- two fronts of one list that have a shape are the same
choice_one : (left right : Shape) → are_apart left right ≡ true → is_some_shape left ≡ true → is_some_shape right ≡ true → IsOne (IsShaped left) → IsOne (IsShaped right) → IsOne (IsShaped (choice left right))
choice_one left right h some_left some_right one_left one_right a r b s (inl x) (inl y) e = one_left a r b s x y e
choice_one left right h some_left some_right one_left one_right a r b s (inr x) (inr y) e = one_right a r b s x y e
choice_one left right h some_left some_right one_left one_right a r b s (inl x) (inr y) e = sides_one left right a r b s h some_left some_right x y e
choice_one left right h some_left some_right one_left one_right a r b s (inr x) (inl y) e = sym (sides_one left right b s a r h some_left some_right y x (sym e))

pair_one : (left right : Shape) → IsOne (IsShaped left) → IsOne (IsShaped right) → IsOne (IsShaped (pair left right))
pair_one left right one_left one_right a r b s x y e =
    let whole : x.0 ++ (x.1 ++ r) ≡ y.0 ++ (y.1 ++ s) = sym (append_assoc x.0 x.1 r) ∙ ap (λ (l : List ℕ). l ++ r) (sym x.2) ∙ e ∙ ap (λ (l : List ℕ). l ++ s) y.2 ∙ append_assoc y.0 y.1 s in
    let front : x.0 ≡ y.0 = one_left x.0 (x.1 ++ r) y.0 (y.1 ++ s) x.3 y.3 whole in
    let rest : x.1 ++ r ≡ y.1 ++ s = append_cancel_left y.0 (x.1 ++ r) (y.1 ++ s) (ap (λ (l : List ℕ). l ++ (x.1 ++ r)) (sym front) ∙ whole) in
    let back : x.1 ≡ y.1 = one_right x.1 r y.1 s x.4 y.4 rest in
    x.2 ∙ ap (λ (l : List ℕ). l ++ x.1) front ∙ ap (λ (l : List ℕ). y.0 ++ l) back ∙ sym y.2

pub one_shape : (shape : Shape) → is_some_shape shape ≡ true → IsOne (IsShaped shape)
one_shape (letters text) some a r b s x y e = x ∙ sym y
one_shape (fixed_number width ranges) some a r b s x y e =
    same_length a r b s (ap length x.2 ∙ digits_length width x.0 ∙ sym (digits_length width y.0) ∙ sym (ap length y.2)) e
one_shape (pair left right) some a r b s x y e =
    let k = and_parts (is_some_shape left) (is_some_shape right) some in
    pair_one left right (one_shape left k.0) (one_shape right k.1) a r b s x y e
one_shape (choice left right) some a r b s x y e =
    let k = and_parts (are_apart left right) (is_some_shape left && is_some_shape right) some in
    let m = and_parts (is_some_shape left) (is_some_shape right) k.1 in
    choice_one left right k.0 m.0 m.1 (one_shape left m.0) (one_shape right m.1) a r b s x y e

-- a shape has some bytes
pub some_shape : (shape : Shape) → is_some_shape shape ≡ true → (bytes : List ℕ) × IsShaped shape bytes
some_shape (letters text) some = (text, refl)
some_shape (fixed_number zero ranges) some = absurd (cc)
some_shape (fixed_number (suc more) ranges) some = let n = some_numeral (suc more) ranges some in (digits (suc more) n.0, (n.0, n.1, refl))
some_shape (pair left right) some =
    let k = and_parts (is_some_shape left) (is_some_shape right) some in
    let a = some_shape left k.0 in
    let b = some_shape right k.1 in
    (a.0 ++ b.0, (a.0, b.0, refl, a.1, b.1))
some_shape (choice left right) some =
    let k = and_parts (are_apart left right) (is_some_shape left && is_some_shape right) some in
    let a = some_shape left (and_parts (is_some_shape left) (is_some_shape right) k.1).0 in
    (a.0, inl a.1)

-- shapes are read
numeral_found : (more : ℕ) (ranges : List (ℕ × ℕ)) (bytes : List ℕ) → are_ranges (suc more) ranges ≡ true → Finds (IsShaped (fixed_number (suc more) ranges)) bytes (read_shape (fixed_number (suc more) ranges) bytes)
unfolding read_shape
numeral_found more ranges bytes some =
    let all = are_all_of (suc more) ranges some in
    let n = some_numeral (suc more) ranges some in
    let start = numbered_start (suc more) ranges n.0 (digits (suc more) n.0) all n.1 refl in
    finds_alike (Numbered (suc more) ranges 0) (IsShaped (fixed_number (suc more) ranges)) bytes (read_shape (fixed_number (suc more) ranges) bytes)
    (λ l h. (h.0, h.1, h.3)) (λ l h. numbered_start (suc more) ranges h.0 l all h.1 h.2)
    (numeral_read (suc more) (suc more) ranges 0 bytes all (digits (suc more) n.0) start)

pub shape_found : (shape : Shape) (bytes : List ℕ) → is_some_shape shape ≡ true → Finds (IsShaped shape) bytes (read_shape shape bytes)
unfolding read_shape
shape_found (letters text) bytes some = letters_read text bytes
shape_found (fixed_number zero ranges) bytes some = absurd (cc)
shape_found (fixed_number (suc more) ranges) bytes some = numeral_found more ranges bytes some
shape_found (pair left right) bytes some =
    let k = and_parts (is_some_shape left) (is_some_shape right) some in
    let b = some_shape right k.1 in
    pair_read (IsShaped left) (IsShaped right) bytes (read_shape left bytes) (read_shape right) b.0 (one_shape left k.0) b.1 (shape_found left bytes k.0) (λ back. shape_found right back k.1)
shape_found (choice left right) bytes some =
    let k = and_parts (are_apart left right) (is_some_shape left && is_some_shape right) some in
    let m = and_parts (is_some_shape left) (is_some_shape right) k.1 in
    choice_read (IsShaped left) (IsShaped right) bytes (read_shape left bytes) (read_shape right bytes) (shape_found left bytes m.0) (shape_found right bytes m.1)

shape_longer : (shape : Shape) (front more : List ℕ) (x : ℕ) → is_some_shape shape ≡ true → IsShaped shape front → IsShaped shape (front ++ (x ∷ more)) → ⊥
shape_longer shape front more x some h k =
    let same = one_shape shape some front (x ∷ more) (front ++ (x ∷ more)) [] h k (sym (append-nil (front ++ (x ∷ more)))) in
    omega (arith, ap length same, length-append front (x ∷ more))

token_found : (shape : Shape) (bytes : List ℕ) (r : Result (List ℕ × List ℕ) ℕ) → is_some_shape shape ≡ true → Finds (IsShaped shape) bytes r → TokenReads (shaped shape) bytes r
token_found shape bytes (Ok (front, back)) some h = record { list = h.0; is_token = h.1; longer = λ x rest more e k. shape_longer shape front more x some h.1 k }
token_found shape bytes (Err left) some f =
    record { front = f.front; back = f.back; list = f.list; left_is = f.left_is; begins = f.begins; past = f.past; none = f.none }

pub shape_reads : (shape : Shape) (bytes : List ℕ) → is_some_shape shape ≡ true → TokenReads (shaped shape) bytes (read_shape shape bytes)
shape_reads shape bytes some = token_found shape bytes (read_shape shape bytes) some (shape_found shape bytes some)
