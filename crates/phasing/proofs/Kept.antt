-- where a reception lost elements, and else has those that were sent, each slot that shows a symbol shows it in what
-- was sent
use Rattle.std.proofs.Common.{◌≡◌, ℕ, ◌+◌, ◌-◌, ◌*◌, ◌/◌, ◌%◌, ◌<◌, ◌≤◌, ◌⊎◌, inl, inr, Bool, true, false, ◌&&◌, cond, nat_le, List, [], ◌∷◌, length, get_or, take, drop, map, refl, arith, ap, sym, subst, ◌∙◌}
use Rattle.std.specs.Prelude.{count_by}
use Rattle.std.specs.List.{list_all}
use Rattle.std.proofs.lemmas.Bool.{both_ways, and_parts, and_from, leb-true, le-leb, cond-true}
use Rattle.std.proofs.lemmas.List.Sums.{sum_by-cons}
use Rattle.std.proofs.lemmas.Bool.Decides.{nat_tests}
use Rattle.std.proofs.lemmas.List.{length-take-le, length-drop, get_or-take, get_or-drop, get_or-map, ext_get_or}
use Rattle.ten_unit.specs.declared.character.Element.{Element}
use Rattle.ten_unit.specs.declared.character.Element.TheVariants.{Lost}
use Rattle.ten_unit.specs.Word.{element, information, count_of_b, elements_eq, is_word, word_of}
use Rattle.ten_unit.proofs.PublicLaws.{elements_same, elements_own, element-sent, length-word}
use Rattle.dsc_symbols.specs.declared.phasing.TheConstants.{DX, RX_7}
use Rattle.phasing.specs.Origin.{dx_right, rx_right, is_enough, is_phased}
use Rattle.phasing.specs.Slot.{shows}

-- the binary digits of a word's ten elements
abbrev digits : ℕ → List ℕ
digits v =
    let count = count_of_b (information v) in
    v % 2 ∷ v / 2 % 2 ∷ v / 4 % 2 ∷ v / 8 % 2 ∷ v / 16 % 2 ∷ v / 32 % 2 ∷ v / 64 % 2 ∷ count / 4 % 2 ∷ count / 2 % 2 ∷ count % 2 ∷ []

word-digits : (v : ℕ) → word_of v ≡ map element (digits v)
unfolding word_of
word-digits v = refl

-- no element of a word is lost
pub word-sent : (v i : ℕ) → i < 10 → get_or (word_of v) i Lost ≡ Lost → ⊥
word-sent v i below h =
    element-sent (get_or (digits v) i 0)
    (sym (get_or-map element (digits v) i 0 Lost below) ∙ ap (λ (l : List Element). get_or l i Lost) (sym (word-digits v)) ∙ h)

-- the ten elements from an index on, counted from 150 before the first, are inside the list and are the word of a
-- symbol
pub record IsWordAt (e : List Element) (at v : ℕ) : Type 0 where
  pub low : 150 ≤ at
  pub high : at + 10 ≤ length e + 150
  pub word : take 10 (drop (at - 150) e) ≡ word_of v

inside : (a b : Bool) (xs : List Element) (v : ℕ) → is_word (cond (a && b) xs []) v ≡ true → (a ≡ true) × (b ≡ true) × (xs ≡ word_of v)
unfolding is_word word_of
inside true true xs v h = (refl, refl, elements_same xs (word_of v) h)
inside true false xs v h = absurd cc
inside false b xs v h = absurd cc

-- a slot that shows a symbol has its word
pub word_at : (e : List Element) (lead s v : ℕ) → shows e lead s v ≡ true → IsWordAt e (lead + 10 * s) v
unfolding shows
word_at e lead s v h =
    let parts = inside (nat_le 150 (lead + 10 * s)) (nat_le (lead + 10 * s + 10) (length e + 150)) _ v h in
    record {
      low = leb-true _ _ parts.0;
      high = leb-true _ _ parts.1;
      word = parts.2;
    }

-- a slot with a symbol's word shows it
pub shown : (e : List Element) (lead s v : ℕ) → IsWordAt e (lead + 10 * s) v → shows e lead s v ≡ true
unfolding shows is_word
shown e lead s v w =
    let within = and_from (nat_le 150 (lead + 10 * s)) (nat_le (lead + 10 * s + 10) (length e + 150)) (le-leb _ _ w.low) (le-leb _ _ w.high) in
    let whole = cond-true _ (take 10 (drop (lead + 10 * s - 150) e)) [] within ∙ w.word in
    ap (λ (l : List Element). elements_eq l (word_of v)) whole ∙ elements_own (word_of v)

-- below a bound each received element is lost, or is the sent element so many places further on
pub record IsKept (e sent : List Element) (shift bound : ℕ) : Type 0 where
  pub same : (i : ℕ) → i < length e → i < bound → (get_or e i Lost ≡ Lost) ⊎ (get_or e i Lost ≡ get_or sent (i + shift) Lost)
  pub long : bound + shift ≤ length sent

-- an element of ten in a row
pub get_or-part : (e : List Element) (a i : ℕ) → i < 10 → get_or (take 10 (drop a e)) i Lost ≡ get_or e (a + i) Lost
get_or-part e a i below = get_or-take 10 (drop a e) i Lost below ∙ get_or-drop a e i Lost

kept_element : (x y z : Element) → x ≡ z → (z ≡ Lost → ⊥) → (x ≡ Lost) ⊎ (x ≡ y) → y ≡ z
kept_element x y z same here (inl lost) = absurd (here (sym same ∙ lost))
kept_element x y z same here (inr kept) = sym kept ∙ same

-- a word that was received is in what was sent
kept_word : (e s : List Element) (shift bound at v : ℕ) → IsKept e s shift bound → at + 10 ≤ bound + 150 → IsWordAt e at v → IsWordAt s (at + shift) v
kept_word e s shift bound at v k below w =
    let low : 150 ≤ at = w.low in
    let high : at + 10 ≤ length e + 150 = w.high in
    let long : bound + shift ≤ length s = k.long in
    let sized = length-take-le 10 (drop (at + shift - 150) s) (omega (arith, length-drop (at + shift - 150) s)) in
    record {
      low = omega arith;
      high = omega arith;
      word =
          ext_get_or Lost _ _ (sized ∙ sym (length-word v))
          (λ i short.
          let few : i < 10 = omega arith in
          let index : at - 150 + i + shift ≡ at + shift - 150 + i = omega arith in
          let there = get_or-part s (at + shift - 150) i few in
          let here = sym (get_or-part e (at - 150) i few) ∙ ap (λ l. get_or l i Lost) w.word in
          there ∙ kept_element _ _ _ here (word-sent v i few) (subst (λ n. (get_or e (at - 150 + i) Lost ≡ Lost) ⊎ (get_or e (at - 150 + i) Lost ≡ get_or s n Lost)) index (k.same (at - 150 + i) (omega arith) (omega arith))));
    }

kept_slot : (e sent : List Element) (shift bound lead s v : ℕ) → IsKept e sent shift bound → lead + 10 * s + 10 ≤ bound + 150 → shows e lead s v ≡ true → shows sent (lead + shift) s v ≡ true
kept_slot e sent shift bound lead s v k below h =
    let index : lead + 10 * s + shift ≡ lead + shift + 10 * s = omega arith in
    shown sent (lead + shift) s v (subst (λ n. IsWordAt sent n v) index (kept_word e sent shift bound (lead + 10 * s) v k below (word_at e lead s v h)))

at_most : (a b : Bool) (m n : ℕ) → (a ≡ true → b ≡ true) → m ≤ n → cond a 1 0 + m ≤ cond b 1 0 + n
at_most true true m n h below = omega arith
at_most true false m n h below = absurd (omega (arith, both_ways false refl (h refl)))
at_most false true m n h below = omega arith
at_most false false m n h below = omega arith

-- of slots up to 15, no fewer show what they did
pub no_fewer : (p q : ℕ → Bool) (xs : List ℕ) → list_all (λ s. nat_le s 15) xs ≡ true → ((s : ℕ) → s ≤ 15 → p s ≡ true → q s ≡ true) → count_by p xs ≤ count_by q xs
no_fewer p q [] small h = omega arith
no_fewer p q (x ∷ xs) small h =
    let both = and_parts (nat_le x 15) (list_all (λ s. nat_le s 15) xs) small in
    let rest : count_by p xs ≤ count_by q xs = no_fewer p q xs both.1 h in
    let one = at_most (p x) (q x) (count_by p xs) (count_by q xs) (h x (leb-true _ _ both.0)) rest in
    omega (arith, one, sum_by-cons (λ s. cond (p s) 1 0) x xs, sum_by-cons (λ s. cond (q s) 1 0) x xs)

-- more right phasing symbols are enough too
pub enough_more : (dx rx more_dx more_rx : ℕ) → dx ≤ more_dx → rx ≤ more_rx → is_enough dx rx ≡ true → is_enough more_dx more_rx ≡ true
enough_more dx rx more_dx more_rx d r h = grind (arith, nat_tests)

-- a lead that is phased in the reception is phased in what was sent
pub kept_phased : (e sent : List Element) (shift bound lead : ℕ) → IsKept e sent shift bound → lead + 10 ≤ bound → is_phased e lead ≡ true → is_phased sent (lead + shift) ≡ true
unfolding is_phased
kept_phased e sent shift bound lead k below h =
    let d = no_fewer (λ s. shows e lead s DX) (λ s. shows sent (lead + shift) s DX) (0 ∷ 2 ∷ 4 ∷ 6 ∷ 8 ∷ 10 ∷ []) refl (λ s few. kept_slot e sent shift bound lead s DX k (omega arith)) in
    let r = no_fewer (λ s. shows e lead s (RX_7 - (s - 1) / 2)) (λ s. shows sent (lead + shift) s (RX_7 - (s - 1) / 2)) (1 ∷ 3 ∷ 5 ∷ 7 ∷ 9 ∷ 11 ∷ 13 ∷ 15 ∷ []) refl (λ s few. kept_slot e sent shift bound lead s _ k (omega arith)) in
    enough_more (dx_right e lead) (rx_right e lead) (dx_right sent (lead + shift)) (rx_right sent (lead + shift)) d r h
