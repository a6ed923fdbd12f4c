-- A reception through a window: elements at places, and what ten of them in a row show.
use Rattle.std.proofs.Common.{◌≡◌, ℕ, zero, suc, ◌+◌, ◌-◌, ◌*◌, ◌<◌, ◌≤◌, nat_le, Bool, true, false, cond, ◌&&◌, List, [], ◌∷◌, length, take, drop, replicate, set, slice_index, slice_index_or, refl, ap, sym, ◌∙◌, arith, subst, inl, inr}
use Rattle.std.proofs.lemmas.Bool.{cases_lt, cases_eq, cases_Bool, le-leb, leb-true, lt-leb, and_parts, and_from, ne_eqb, and_right}
use Rattle.std.proofs.lemmas.List.{get_or-replicate, length-set, get_or-set_same, get_or-set_other}
use Rattle.std.proofs.Math.Seq.{drop-cons}
use Rattle.ten_unit.specs.declared.character.Element.{Element}
use Rattle.ten_unit.specs.declared.character.Element.TheVariants.{Lost}
use Rattle.ten_unit.specs.Word.{word_of, is_word, element_eq, elements_eq}
use Rattle.ten_unit.specs.inside.Symbol.{IsSymbol, stretch}
use Rattle.ten_unit.proofs.PublicLaws.{element-sent, is_word-none}
use Rattle.phasing.specs.Slot.{slot}
use Rattle.phasing.specs.inside.Places.{element_at}
use Rattle.phasing.proofs.PublicLaws.{element_at-inside, element_at-before, element_at-past}

-- an element of a stretch
stretch_at : (e : ℕ → Element) (n p i : ℕ) → i < n → slice_index_or (stretch e n p) i Lost ≡ e (p + i)
unfolding stretch
stretch_at e zero p i below = absurd (omega arith)
stretch_at e (suc n) p zero below = let at : p ≡ p + 0 = omega arith in ap e at
stretch_at e (suc n) p (suc i) below = let at : p + 1 + i ≡ p + suc i = omega arith in stretch_at e n (p + 1) i (omega arith) ∙ ap e at

-- a stretch inside the reception is a part of it
stretch_inside : (e : List Element) (n p : ℕ) → 150 ≤ p → p + n ≤ length e + 150 → stretch (element_at e) n p ≡ take n (drop (p - 150) e)
unfolding stretch
stretch_inside e zero p begun inside = refl
stretch_inside e (suc n) p begun inside =
    let more : p + 1 - 150 ≡ suc (p - 150) = omega arith in
    ap (λ (x : Element). x ∷ stretch (element_at e) n (p + 1)) (element_at-inside e p begun)
    ∙ ap (λ (l : List Element). slice_index_or e (p - 150) Lost ∷ l) (stretch_inside e n (p + 1) (omega arith) (omega arith) ∙ ap (λ (k : ℕ). take n (drop k e)) more)
    ∙ sym (ap (take (suc n)) (drop-cons e (p - 150) Lost (omega arith)))

-- no word has a lost element
lost_one : (x y : Element) → x ≡ Lost → (y ≡ Lost → ⊥) → element_eq x y ≡ false
lost_one x y lost told = grind arith

lost_apart : (w word : List Element) (i : ℕ) → i < length word → slice_index_or w i Lost ≡ Lost → (slice_index_or word i Lost ≡ Lost → ⊥) → elements_eq w word ≡ false
lost_apart [] [] i inside lost told = absurd (omega arith)
lost_apart [] (y ∷ ys) i inside lost told = refl
lost_apart (x ∷ xs) [] i inside lost told = refl
lost_apart (x ∷ xs) (y ∷ ys) zero inside lost told = ap (λ (b : Bool). b && elements_eq xs ys) (lost_one x y lost told)
lost_apart (x ∷ xs) (y ∷ ys) (suc i) inside lost told = and_right (element_eq x y) (elements_eq xs ys) (lost_apart xs ys i (omega arith) lost told)

no_word_first : (w : List Element) (v : ℕ) → slice_index_or w 0 Lost ≡ Lost → is_word w v ≡ false
unfolding is_word word_of
no_word_first w v lost = lost_apart w (word_of v) 0 (omega arith) lost (element-sent _)

no_word_last : (w : List Element) (v : ℕ) → slice_index_or w 9 Lost ≡ Lost → is_word w v ≡ false
unfolding is_word word_of
no_word_last w v lost = lost_apart w (word_of v) 9 (omega arith) lost (element-sent _)

no_word_outside : (e : List Element) (p v : ℕ) → (150 ≤ p → p + 10 ≤ length e + 150 → ⊥) → is_word (stretch (element_at e) 10 p) v ≡ false
no_word_outside e p v outside =
    elim (cases_lt p 150) [
      | inl before ↦
          let first : p + 0 ≡ p = omega arith in
          no_word_first _ v (stretch_at (element_at e) 10 p 0 (omega arith) ∙ ap (element_at e) first ∙ element_at-before e p before)
      | inr begun ↦
          elim (cases_lt (length e + 150) (p + 10)) [
            | inl past ↦ no_word_last _ v (stretch_at (element_at e) 10 p 9 (omega arith) ∙ element_at-past e (p + 9) (omega arith))
            | inr inside ↦ absurd (outside begun inside)
          ]
    ]

slot_is : (e : List Element) (lead s : ℕ) (b : Bool) → (nat_le 150 (lead + 10 * s) && nat_le (lead + 10 * s + 10) (length e + 150)) ≡ b
    → slot e lead s ≡ cond b (take 10 (drop (lead + 10 * s - 150) e)) []
slot_is e lead s b at = ap (λ (c : Bool). cond c (take 10 (drop (lead + 10 * s - 150) e)) []) at

-- what the ten elements of a slot show is what the slot shows
shown_alike : (v w : List Element) (x : ℕ) → ((s : ℕ) → is_word v s ≡ is_word w s) → IsSymbol v x → IsSymbol w x
shown_alike v w x same is = record { within = is.within; shown = λ s below. sym (same s) ∙ is.shown s below }

pub slot_shown : (e : List Element) (lead s p x : ℕ) → p ≡ lead + 10 * s → IsSymbol (stretch (element_at e) 10 p) x → IsSymbol (slot e lead s) x
slot_shown e lead s p x place is =
    let q = lead + 10 * s in
    let there : IsSymbol (stretch (element_at e) 10 q) x = subst (λ (n : ℕ). IsSymbol (stretch (element_at e) 10 n) x) place is in
    elim (cases_Bool (nat_le 150 q && nat_le (q + 10) (length e + 150))) [
      | inl both ↦
          let parts = and_parts (nat_le 150 q) (nat_le (q + 10) (length e + 150)) both in
          let same : stretch (element_at e) 10 q ≡ slot e lead s =
          stretch_inside e 10 q (leb-true 150 q parts.0) (leb-true (q + 10) (length e + 150) parts.1) ∙ sym (slot_is e lead s true both)
          in
          subst (λ (l : List Element). IsSymbol l x) same there
      | inr other ↦
          shown_alike _ _ x
          (λ v.
          no_word_outside e q v (λ begun inside. absurd (cc (and_from _ _ (le-leb 150 q begun) (le-leb (q + 10) (length e + 150) inside))))
          ∙ sym (ap (λ (l : List Element). is_word l v) (slot_is e lead s false other) ∙ is_word-none v))
          there
    ]

-- a slot that begins past the end shows nothing
pub slot_past : (e : List Element) (lead s : ℕ) → length e + 150 ≤ lead + 10 * s → IsSymbol (slot e lead s) 128
slot_past e lead s past =
    subst (λ (l : List Element). IsSymbol l 128) (sym (slot_is e lead s false (and_right (nat_le 150 (lead + 10 * s)) _ (lt-leb (lead + 10 * s + 10) (length e + 150) (omega arith)))))
    (record { within = omega arith; shown = λ v below. is_word-none v ∙ sym (ne_eqb v 128 (λ e. omega arith)) })

-- symbols of every second slot: the first n are there, and the rest are 128
pub record IsFilled (e : List Element) (lead first : ℕ) (symbols : List ℕ) (n : ℕ) : Type 0 where
  pub long : length symbols ≡ 66
  pub there : (k : ℕ) → k < n → IsSymbol (slot e lead (first + 2 * k)) (slice_index symbols k)
  pub none : (k : ℕ) → n ≤ k → k < 66 → slice_index symbols k ≡ 128

pub filled_none : (e : List Element) (lead first : ℕ) → IsFilled e lead first (replicate 66 128) 0
filled_none e lead first = record {
  long = refl;
  there = λ k below. absurd (omega arith);
  none = λ k past below. get_or-replicate 66 k 128 0 below;
}

pub filled_more : (e : List Element) (lead first : ℕ) (symbols : List ℕ) (n m x : ℕ) → m ≡ n + 1 → n < 66 → IsFilled e lead first symbols n → IsSymbol (slot e lead (first + 2 * n)) x → IsFilled e lead first (set symbols n x) m
filled_more e lead first symbols n m x next inside filled shown = record {
  long = length-set symbols n x ∙ filled.long;
  there =
      λ k before.
      elim (cases_eq k n) [
        | inl same ↦
            let at : slice_index (set symbols n x) k ≡ x = ap (slice_index (set symbols n x)) same ∙ get_or-set_same symbols n x 0 (omega (arith, filled.long)) in
            subst (λ (v : ℕ). IsSymbol (slot e lead (first + 2 * k)) v) (sym at) (subst (λ (m : ℕ). IsSymbol (slot e lead (first + 2 * m)) x) (sym same) shown)
        | inr other ↦ subst (λ (v : ℕ). IsSymbol (slot e lead (first + 2 * k)) v) (sym (get_or-set_other symbols n k x 0 other)) (filled.there k (omega arith))
      ];
  none = λ k past below. get_or-set_other symbols n k x 0 (omega arith) ∙ filled.none k (omega arith) below;
}

pub filled_all : (e : List Element) (lead first : ℕ) (symbols : List ℕ) (n : ℕ) → IsFilled e lead first symbols n → ((k : ℕ) → n ≤ k → k < 66 → length e + 150 ≤ lead + 10 * (first + 2 * k)) → (k : ℕ) → k < 66 → IsSymbol (slot e lead (first + 2 * k)) (slice_index symbols k)
filled_all e lead first symbols n filled past k below =
    elim (cases_lt k n) [
      | inl before ↦ filled.there k before
      | inr behind ↦
          subst (λ (v : ℕ). IsSymbol (slot e lead (first + 2 * k)) v) (sym (filled.none k behind below))
          (slot_past e lead (first + 2 * k) (past k behind below))
    ]
