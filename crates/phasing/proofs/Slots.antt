-- what the slots of a reception are long, and what they show outside it
use Rattle.std.proofs.Common.{◌≡◌, ℕ, ◌+◌, ◌-◌, ◌*◌, ◌<◌, ◌≤◌, Bool, true, false, cond, nat_le, List, [], length, take, drop, refl, arith, ap, sym, ◌∙◌}
use Rattle.std.proofs.lemmas.Bool.{and_parts, and_left, and_right, leb-true, lt-leb, cond-false}
use Rattle.std.proofs.Math.Seq.{take-length}
use Rattle.std.proofs.lemmas.List.{length-take-le, length-drop}
use Rattle.ten_unit.specs.declared.character.Element.{Element}
use Rattle.ten_unit.specs.Word.{is_word}
use Rattle.ten_unit.proofs.PublicLaws.{is_word-none}
use Rattle.phasing.specs.Slot.{slot, shows}

is_short-cond : (inside : Bool) (xs : List Element) → (inside ≡ true → length xs ≡ 10) → length (cond inside xs []) < 10 → cond inside xs [] ≡ []
is_short-cond true xs whole short = absurd (omega (arith, whole refl))
is_short-cond false xs whole short = refl

length-inside : (e : List Element) (at : ℕ) → 150 ≤ at → at + 10 ≤ length e + 150 → length (take 10 (drop (at - 150) e)) ≡ 10
length-inside e at low high = length-take-le 10 (drop (at - 150) e) (omega (arith, length-drop (at - 150) e))

-- a slot has ten elements or none
pub slot-short : (e : List Element) (lead s : ℕ) → length (slot e lead s) < 10 → slot e lead s ≡ []
slot-short e lead s short =
    is_short-cond _ _
    (λ inside.
    let both = and_parts (nat_le 150 (lead + 10 * s)) (nat_le (lead + 10 * s + 10) (length e + 150)) inside in
    length-inside e (lead + 10 * s) (leb-true _ _ both.0) (leb-true _ _ both.1))
    short

take-cond : (inside : Bool) (xs : List Element) → (inside ≡ true → length xs ≡ 10) → take 10 (cond inside xs []) ≡ cond inside xs []
take-cond true xs whole = ap (λ n. take n xs) (sym (whole refl)) ∙ take-length xs
take-cond false xs whole = refl

-- the first ten elements of a slot are the slot
pub take-slot : (e : List Element) (lead s : ℕ) → take 10 (slot e lead s) ≡ slot e lead s
take-slot e lead s =
    take-cond _ _
    (λ inside.
    let both = and_parts (nat_le 150 (lead + 10 * s)) (nat_le (lead + 10 * s + 10) (length e + 150)) inside in
    length-inside e (lead + 10 * s) (leb-true _ _ both.0) (leb-true _ _ both.1))

-- a slot with no elements shows nothing
pub shows-none : (e : List Element) (lead s v : ℕ) → slot e lead s ≡ [] → shows e lead s v ≡ false
unfolding shows
shows-none e lead s v h = ap (λ (w : List Element). is_word w v) h ∙ is_word-none v

-- past the reception's end there are no elements
pub slot-past : (e : List Element) (lead s : ℕ) → length e + 150 ≤ lead → slot e lead s ≡ []
slot-past e lead s past =
    cond-false _ _ _ (and_right (nat_le 150 (lead + 10 * s)) _ (lt-leb _ _ (omega arith)))

pub shows-past : (e : List Element) (lead s v : ℕ) → length e + 150 ≤ lead → shows e lead s v ≡ false
shows-past e lead s v past = shows-none e lead s v (slot-past e lead s past)

-- before the first element there are none
slot-early : (e : List Element) (lead s : ℕ) → lead + 10 * s < 150 → slot e lead s ≡ []
slot-early e lead s before =
    cond-false _ _ _ (and_left _ (nat_le (lead + 10 * s + 10) (length e + 150)) (lt-leb _ _ before))

pub shows-early : (e : List Element) (lead s v : ℕ) → lead + 10 * s < 150 → shows e lead s v ≡ false
shows-early e lead s v before = shows-none e lead s v (slot-early e lead s before)

-- a slot shows what the word of its first ten elements is
pub shows-first : (e w : List Element) (lead s v : ℕ) → w ≡ take 10 (slot e lead s) → shows e lead s v ≡ is_word w v
unfolding shows
shows-first e w lead s v h = ap (λ (x : List Element). is_word x v) (sym (h ∙ take-slot e lead s))
