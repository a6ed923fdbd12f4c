-- words that begin at a place: what a slot shows
use Rattle.std.proofs.Common.{◌≡◌, ℕ, zero, suc, ◌+◌, ◌-◌, ◌*◌, ◌<◌, ◌≤◌, Bool, true, false, ◌&&◌, nat_le, List, [], ◌∷◌, ◌++◌, length, take, drop, get_or, add-zero, add-one, inl, inr, refl, arith, ap, sym, subst, ◌∙◌}
use Rattle.std.proofs.lemmas.Bool.{cases_lt, and_parts, and_from, cond-true, cond-false, le-leb, lt-leb, false_from_ne_true}
use Rattle.std.proofs.lemmas.List.{get_or_past, length-take-le, length-drop, ext_get_or, take-append-drop, take_all}
use Rattle.std.proofs.Math.Bool.{and-true, and_assoc, and_comm}
use Rattle.std.proofs.lemmas.Bool.Decides.{same_from_decides}
use Rattle.ten_unit.specs.declared.character.Element.{Element}
use Rattle.ten_unit.specs.declared.character.Element.TheVariants.{Y, Lost}
use Rattle.ten_unit.specs.inside.Marks.{IsMarks}
use Rattle.ten_unit.specs.Word.{element_eq, word_of}
use Rattle.ten_unit.proofs.PublicLaws.{length-word, element_same, element_own}
use Rattle.phasing.specs.inside.Places.{element_at, is_at}
use Rattle.phasing.specs.Slot.{shows}
use Rattle.phasing.proofs.Kept.{IsWordAt, word-sent, word_at, shown, get_or-part}
use Rattle.phasing.proofs.BitTests.{moved_marks, same_marks}

is_at-more : (e : ℕ → Element) (w : List Element) (k place : ℕ) → k < length w → is_at e (take (suc k) w) place ≡ (is_at e (take k w) place && element_eq (e (place + k)) (get_or w k Y))
is_at-more e [] k place h = absurd (omega arith)
is_at-more e (a ∷ w) zero place h =
    and-true (element_eq (e place) a) ∙ ap (λ (p : ℕ). element_eq (e p) a) (sym (add-zero place))
is_at-more e (a ∷ w) (suc k) place h =
    let place_one : place + 1 + k ≡ place + suc k = omega arith in
    ap (λ (b : Bool). element_eq (e place) a && b) (is_at-more e w k (place + 1) (omega arith))
    ∙ sym (and_assoc (element_eq (e place) a) (is_at e (take k w) (place + 1)) _)
    ∙ ap (λ (p : ℕ). element_eq (e place) a && is_at e (take k w) (place + 1) && element_eq (e p) (get_or w k Y)) place_one

-- one element more
pub is_at_push : (e : ℕ → Element) (w : List Element) (k place : ℕ) → k < length w → is_at e (take (k + 1) w) place ≡ (is_at e (take k w) place && element_eq (e (place + k)) (get_or w k Y))
is_at_push e w k place h = ap (λ (n : ℕ). is_at e (take n w) place) (add-one k) ∙ is_at-more e w k place h

-- elements in two parts
is_at-append : (e : ℕ → Element) (xs ys : List Element) (place : ℕ) → is_at e (xs ++ ys) place ≡ (is_at e xs place && is_at e ys (place + length xs))
is_at-append e [] ys place = sym (ap (is_at e ys) (add-zero place))
is_at-append e (x ∷ xs) ys place =
    let next : place + 1 + length xs ≡ place + length (x ∷ xs) = omega arith in
    ap (λ (t : Bool). element_eq (e place) x && t) (is_at-append e xs ys (place + 1) ∙ ap (λ (q : ℕ). is_at e xs (place + 1) && is_at e ys q) next)
    ∙ sym (and_assoc (element_eq (e place) x) (is_at e xs (place + 1)) (is_at e ys (place + length (x ∷ xs))))

-- the last elements of a word, and the first three
pub is_at_parts : (e : ℕ → Element) (w : List Element) (place : ℕ) → length w ≡ 10 → (is_at e (take 7 (drop 3 w)) (place + 3) && is_at e (take 3 w) (place + 0)) ≡ is_at e w place
is_at_parts e w place long =
    let three : place + length (take 3 w) ≡ place + 3 = omega (arith, length-take-le 3 w (omega (arith, long))) in
    let same : place + 0 ≡ place = omega arith in
    ap (λ (l : List Element). is_at e l (place + 3) && is_at e (take 3 w) (place + 0)) (take_all 7 (drop 3 w) (omega (arith, long, length-drop 3 w)))
    ∙ and_comm (is_at e (drop 3 w) (place + 3)) (is_at e (take 3 w) (place + 0))
    ∙ ap (λ (q : ℕ). is_at e (take 3 w) q && is_at e (drop 3 w) (place + 3)) same
    ∙ ap (λ (q : ℕ). is_at e (take 3 w) place && is_at e (drop 3 w) q) (sym three)
    ∙ sym (is_at-append e (take 3 w) (drop 3 w) place)
    ∙ ap (λ (l : List Element). is_at e l place) (take-append-drop 3 w)

equal_elements : (a b : Element) → a ≡ b → element_eq a b ≡ true
equal_elements a b h = ap (element_eq a) (sym h) ∙ element_own a

-- each element is the word's
pub each_at : (e : ℕ → Element) (w : List Element) (place : ℕ) → is_at e w place ≡ true → (k : ℕ) → k < length w → e (place + k) ≡ get_or w k Lost
each_at e [] place h k below = absurd (omega arith)
each_at e (a ∷ w) place h zero below =
    ap e (add-zero place) ∙ element_same (e place) a (and_parts (element_eq (e place) a) (is_at e w (place + 1)) h).0
each_at e (a ∷ w) place h (suc k) below =
    let next : place + suc k ≡ place + 1 + k = omega arith in
    ap e next ∙ each_at e w (place + 1) (and_parts (element_eq (e place) a) (is_at e w (place + 1)) h).1 k (omega arith)

pub at_each : (e : ℕ → Element) (w : List Element) (place : ℕ) → ((k : ℕ) → k < length w → e (place + k) ≡ get_or w k Lost) → is_at e w place ≡ true
at_each e [] place h = refl
at_each e (a ∷ w) place h =
    and_from (element_eq (e place) a) (is_at e w (place + 1))
    (equal_elements (e place) a (ap e (sym (add-zero place)) ∙ h 0 (omega arith)))
    (at_each e w (place + 1)
    (λ k below.
    let next : place + 1 + k ≡ place + suc k = omega arith in
    ap e next ∙ h (suc k) (omega arith)))

-- an element inside a reception, and that outside all are lost
pub element_at-inside : (e : List Element) (place : ℕ) → 150 ≤ place → element_at e place ≡ get_or e (place - 150) Lost
element_at-inside e place low = cond-true (nat_le 150 place) _ Lost (le-leb 150 place low)

pub element_at-before : (e : List Element) (place : ℕ) → place < 150 → element_at e place ≡ Lost
element_at-before e place low = cond-false (nat_le 150 place) _ Lost (lt-leb 150 place low)

pub element_at-past : (e : List Element) (place : ℕ) → length e + 150 ≤ place → element_at e place ≡ Lost
element_at-past e place past = element_at-inside e place (omega arith) ∙ get_or_past e (place - 150) Lost (omega arith)

-- a place with an element that is not lost
pub heard_from : (e : List Element) (place : ℕ) → (element_at e place ≡ Lost → ⊥) → 150 ≤ place
heard_from e place h =
    elim (cases_lt place 150) [ inl low ↦ absurd (h (element_at-before e place low)) | inr high ↦ high ]

heard_below : (e : List Element) (place : ℕ) → (element_at e place ≡ Lost → ⊥) → place < length e + 150
heard_below e place h =
    elim (cases_lt place (length e + 150)) [
      | inl low ↦ low
      | inr high ↦ absurd (h (element_at-past e place high))
    ]

at_word : (e : List Element) (at v : ℕ) → is_at (element_at e) (word_of v) at ≡ true → IsWordAt e at v
at_word e at v h =
    let each = each_at (element_at e) (word_of v) at h in
    let ten : length (word_of v) ≡ 10 = length-word v in
    let heard = λ (k : ℕ) (below : k < 10) (lost : element_at e (at + k) ≡ Lost). word-sent v k below (sym (each k (omega arith)) ∙ lost) in
    let low : 150 ≤ at + 0 = heard_from e (at + 0) (heard 0 (omega arith)) in
    let high : at + 9 < length e + 150 = heard_below e (at + 9) (heard 9 (omega arith)) in
    let sized = length-take-le 10 (drop (at - 150) e) (omega (arith, length-drop (at - 150) e)) in
    record {
      low = omega arith;
      high = omega arith;
      word =
          ext_get_or Lost _ _ (sized ∙ sym ten)
          (λ i short.
          let few : i < 10 = omega arith in
          let index : at - 150 + i ≡ at + i - 150 = omega arith in
          get_or-part e (at - 150) i few ∙ ap (λ (n : ℕ). get_or e n Lost) index
          ∙ sym (element_at-inside e (at + i) (omega arith))
          ∙ each i (omega arith));
    }

word_is_at : (e : List Element) (at v : ℕ) → IsWordAt e at v → is_at (element_at e) (word_of v) at ≡ true
word_is_at e at v w =
    at_each (element_at e) (word_of v) at
    (λ k below.
    let few : k < 10 = omega (arith, length-word v) in
    let low : 150 ≤ at = w.low in
    let index : at + k - 150 ≡ at - 150 + k = omega arith in
    element_at-inside e (at + k) (omega arith) ∙ ap (λ (n : ℕ). get_or e n Lost) index
    ∙ sym (get_or-part e (at - 150) k few)
    ∙ ap (λ (l : List Element). get_or l k Lost) w.word)

-- the word of a symbol begins at a slot's place where the slot shows the symbol
pub is_at-shows : (e : List Element) (lead s v : ℕ) → is_at (element_at e) (word_of v) (lead + 10 * s) ≡ shows e lead s v
is_at-shows e lead s v =
    same_from_decides {P = shows e lead s v ≡ true} _ _
    (λ h. shown e lead s v (at_word e (lead + 10 * s) v h), λ h. word_is_at e (lead + 10 * s) v (word_at e lead s v h)) (λ h. h, λ h. h)

-- no word begins before the first element
pub is_at-early : (e : List Element) (place v : ℕ) → place < 150 → is_at (element_at e) (word_of v) place ≡ false
is_at-early e place v before =
    false_from_ne_true (is_at (element_at e) (word_of v) place)
    (λ h.
    let low : 150 ≤ place = (at_word e place v h).low in
    absurd (omega arith))

-- marks of a word at a slot's places are marks of the leads at which the slot shows the symbol
slot_marks : (w base s v : ℕ) (e : List Element) → IsMarks w (base + 10 * s) (is_at (element_at e) (word_of v)) → IsMarks w base (λ lead. shows e lead s v)
slot_marks w base s v e h =
    same_marks w base _ (λ lead. shows e lead s v) (λ lead. is_at-shows e lead s v) (moved_marks w base (10 * s) (is_at (element_at e) (word_of v)) h)

-- slot 0 begins at its lead
pub first_slot : (w base v : ℕ) (e : List Element) → IsMarks w base (is_at (element_at e) (word_of v)) → IsMarks w base (λ lead. shows e lead 0 v)
first_slot w base v e h =
    let at : base ≡ base + 10 * 0 = omega arith in
    slot_marks w base 0 v e (subst (λ b. IsMarks w b (is_at (element_at e) (word_of v))) at h)

-- a later slot's marks come from two words
pub later_slot : (low high w base from next shift s v : ℕ) (e : List Element) → ((b : ℕ) (f : ℕ → Bool) → IsMarks low b f → IsMarks high (b + 64) f → IsMarks w (b + shift) f)
    → next ≡ from + 64 → from + shift ≡ base + 10 * s → IsMarks low from (is_at (element_at e) (word_of v)) → IsMarks high next (is_at (element_at e) (word_of v)) → IsMarks w base (λ lead. shows e lead s v)
later_slot low high w base from next shift s v e made follows at here there =
    let word = is_at (element_at e) (word_of v) in
    slot_marks w base s v e (subst (λ b. IsMarks w b word) at (made from word here (subst (λ b. IsMarks high b word) follows there)))

-- the same of any elements: marks of a word at a slot's places are marks of the leads at which it begins in the slot
word_marks : (w base s v : ℕ) (e : ℕ → Element) → IsMarks w (base + 10 * s) (is_at e (word_of v)) → IsMarks w base (λ lead. is_at e (word_of v) (lead + 10 * s))
word_marks w base s v e h = moved_marks w base (10 * s) (is_at e (word_of v)) h

pub first_word : (w base v : ℕ) (e : ℕ → Element) → IsMarks w base (is_at e (word_of v)) → IsMarks w base (λ lead. is_at e (word_of v) (lead + 10 * 0))
first_word w base v e h =
    let at : base ≡ base + 10 * 0 = omega arith in
    word_marks w base 0 v e (subst (λ b. IsMarks w b (is_at e (word_of v))) at h)

pub later_word : (low high w base from next shift s v : ℕ) (e : ℕ → Element) → ((b : ℕ) (f : ℕ → Bool) → IsMarks low b f → IsMarks high (b + 64) f → IsMarks w (b + shift) f)
    → next ≡ from + 64 → from + shift ≡ base + 10 * s → IsMarks low from (is_at e (word_of v)) → IsMarks high next (is_at e (word_of v)) → IsMarks w base (λ lead. is_at e (word_of v) (lead + 10 * s))
later_word low high w base from next shift s v e made follows at here there =
    let word = is_at e (word_of v) in
    word_marks w base s v e (subst (λ b. IsMarks w b word) at (made from word here (subst (λ b. IsMarks high b word) follows there)))
