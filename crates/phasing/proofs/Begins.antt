-- a lead whose first three slots are right, and a block with one such lead
use Rattle.std.proofs.Common.{◌≡◌, ◌≢◌, ℕ, ◌+◌, ◌*◌, ◌<◌, ◌≤◌, ◌^◌, ◌==◌, Bool, true, false, ◌&&◌, cond, List, [], ◌∷◌, length, inl, inr, refl, arith, ap, sym, ◌∙◌}
use Rattle.std.specs.Int.{bit_at}
use Rattle.std.proofs.lemmas.Bool.{cases_order, false_from_ne_true}
use Rattle.std.proofs.lemmas.Bool.Decides.{nat_tests}
use Rattle.std.proofs.lemmas.Nat.Bits.{bit_at-zero, bit_at-pow_same, bit_at-pow_other}
use Rattle.dsc_symbols.specs.declared.phasing.TheConstants.{DX, RX_7}
use Rattle.ten_unit.specs.declared.character.Element.{Element}
use Rattle.ten_unit.specs.inside.Marks.{IsMarks}
use Rattle.ten_unit.specs.inside.Symbol.{IsSymbol, stretch}
use Rattle.ten_unit.specs.Word.{element_eq, elements_eq, is_word, word_of}
use Rattle.ten_unit.proofs.PublicLaws.{length-word}
use Rattle.phasing.specs.Origin.{dx_right, rx_right, is_enough, is_phased}
use Rattle.phasing.specs.Slot.{shows}
use Rattle.phasing.specs.inside.Likely.{HasAll}
use Rattle.phasing.specs.inside.Places.{element_at, is_at}
use Rattle.phasing.proofs.BitTests.{no_marks}
use Rattle.phasing.proofs.Words.{is_at-shows}

stretch_at : (e : ℕ → Element) (w : List Element) (p : ℕ) → elements_eq (stretch e (length w) p) w ≡ is_at e w p
unfolding stretch
stretch_at e [] p = refl
stretch_at e (a ∷ w) p = ap (λ (b : Bool). element_eq (e p) a && b) (stretch_at e w (p + 1))

word_at_stretch : (e : ℕ → Element) (p v : ℕ) → is_word (stretch e 10 p) v ≡ is_at e (word_of v) p
unfolding is_word
word_at_stretch e p v =
    ap (λ (n : ℕ). elements_eq (stretch e n p) (word_of v)) (sym (length-word v)) ∙ stretch_at e (word_of v) p

-- a slot shows the symbol of its elements
pub symbol_shown : (e : List Element) (lead s v p r : ℕ) → v < 128 → IsSymbol (stretch (element_at e) 10 p) r → p ≡ lead + 10 * s → (v == r) ≡ true → shows e lead s v ≡ true
symbol_shown e lead s v p r small symbol at same =
    sym (is_at-shows e lead s v) ∙ ap (is_at (element_at e) (word_of v)) (sym at) ∙ sym (word_at_stretch (element_at e) p v) ∙ symbol.shown v small ∙ same

-- the test of two numbers, turned
pub same_symbol : (r v : ℕ) → (r == v) ≡ true → (v == r) ≡ true
same_symbol r v h = grind (arith, nat_tests, h)

two_and_one : (dx rx : ℕ) → 2 ≤ dx → 1 ≤ rx → is_enough dx rx ≡ true
two_and_one dx rx two one = grind (arith, nat_tests)

-- its first three slots are enough
pub three_slots : (e : List Element) (lead : ℕ) → shows e lead 0 DX ≡ true → shows e lead 1 RX_7 ≡ true → shows e lead 2 DX ≡ true → is_phased e lead ≡ true
unfolding is_phased
three_slots e lead first second third =
    let a : ◌≡◌ {A = ℕ} (cond (shows e lead 0 DX) 1 0) 1 = ap (λ (b : Bool). cond b 1 0) first in
    let b : ◌≡◌ {A = ℕ} (cond (shows e lead 1 RX_7) 1 0) 1 = ap (λ (b : Bool). cond b 1 0) second in
    let c : ◌≡◌ {A = ℕ} (cond (shows e lead 2 DX) 1 0) 1 = ap (λ (b : Bool). cond b 1 0) third in
    two_and_one (dx_right e lead) (rx_right e lead) (omega (arith, a, c)) (omega (arith, b))

-- where no place may be marked, the test holds nowhere
pub no_mark : (w base : ℕ) (f : ℕ → Bool) → HasAll w base f → w ≡ 0 → IsMarks 0 base f
no_mark w base f all empty =
    no_marks base f
    (λ i below.
    let none : bit_at w i ≡ 0 = ap (λ (k : ℕ). bit_at k i) empty ∙ bit_at-zero i in
    false_from_ne_true (f (base + i)) (λ h. let marked : bit_at w i ≡ 1 = all.each i below h in absurd (omega (arith, none, marked))))

other_place : (w base n i : ℕ) (f : ℕ → Bool) → HasAll w base f → w ≡ 2 ^ n → i < 64 → i ≢ n → bit_at w i ≡ cond (f (base + i)) 1 0
other_place w base n i f all one below other =
    let none : bit_at w i ≡ 0 = ap (λ (k : ℕ). bit_at k i) one ∙ bit_at-pow_other n i other in
    let unmarked : f (base + i) ≡ false = false_from_ne_true (f (base + i)) (λ h. let marked : bit_at w i ≡ 1 = all.each i below h in absurd (omega (arith, none, marked))) in
    none ∙ ap (λ (b : Bool). cond b 1 0) (sym unmarked)

-- where one place alone may be marked, and the test holds there, the word marks the test
pub one_mark : (w base n : ℕ) (f : ℕ → Bool) → HasAll w base f → w ≡ 2 ^ n → f (base + n) ≡ true → IsMarks w base f
one_mark w base n f all one holds = record {
  fits = all.fits;
  each =
      λ i below.
      elim (cases_order i n) [
        | inl same ↦
            ap (bit_at w) same ∙ ap (λ (k : ℕ). bit_at k n) one ∙ bit_at-pow_same n
            ∙ ap (λ (b : Bool). cond b 1 0) (sym holds)
            ∙ ap (λ (k : ℕ). cond (f (base + k)) 1 0) (sym same)
        | inr (inl less) ↦ other_place w base n i f all one below (λ same. omega (arith, less, same))
        | inr (inr more) ↦ other_place w base n i f all one below (λ same. omega (arith, more, same))
      ];
}
