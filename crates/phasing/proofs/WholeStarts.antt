-- bits that are elements, and the lead of a start without a wrong element
use Rattle.std.proofs.Common.{◌≡◌, ℕ, zero, suc, ◌+◌, ◌-◌, ◌*◌, ◌/◌, ◌%◌, ◌^◌, ◌<◌, ◌≤◌, ◌==◌, min, Bool, true, ◌&&◌, cond, bit_and, List, get_or, Some, inl, inr, refl, arith, ap, sym, ◌∙◌}
use Rattle.std.specs.Int.{bit_at, bit_not, w64}
use Rattle.std.specs.List.{range_with_len, list_all, list_any}
use Rattle.std.proofs.lemmas.Bool.{cases_lt, and_parts, eqb-true}
use Rattle.std.proofs.lemmas.Nat.Bits.{bit_at_and, bit_at_not, bit_at_ones, bit_at-lt}
use Rattle.dsc_symbols.specs.declared.formats.TheConstants.{DISTRESS, ALL_SHIPS, AREA, GROUP, INDIVIDUAL}
use Rattle.ten_unit.specs.declared.character.Element.{Element}
use Rattle.ten_unit.specs.declared.character.Element.TheVariants.{Y, B, Lost}
use Rattle.ten_unit.specs.inside.Marks.{IsPlanes}
use Rattle.ten_unit.specs.Word.{element, element_eq, word_of}
use Rattle.ten_unit.proofs.PublicLaws.{bit_at-shr, element_same}
use Rattle.phasing.specs.Origin.{is_phased, lead_of}
use Rattle.phasing.specs.Sent.{dots, sent}
use Rattle.phasing.specs.Start.{start_symbols, formats}
use Rattle.phasing.specs.declared.intact.TheConstants.{DOTS, SLOTS_0_TO_5, SLOTS_6_TO_11, SLOTS_12_TO_15}
use Rattle.phasing.specs.inside.Intact.{IsStartsEnd}
use Rattle.phasing.specs.inside.Places.{element_at}
use Rattle.phasing.proofs.LateStarts.{found}
use Rattle.phasing.proofs.Near.{is_phased-near}
use Rattle.phasing.proofs.WholeCalls.{phased_start}
use Rattle.phasing.proofs.Words.{element_at-inside}

-- the mask's bits of a word are the word's
low_bit : (x mask count i : ℕ) → mask ≡ 2 ^ count - 1 → i < count → bit_at (bit_and x mask) i ≡ bit_at x i
low_bit x mask count i ones below =
    let one : bit_at mask i ≡ 1 = ap (λ (m : ℕ). bit_at m i) ones ∙ bit_at_ones count i below in
    let few : min (bit_at x i) 1 ≡ bit_at x i = omega (arith, bit_at-lt x i) in
    bit_at_and x mask i ∙ ap (λ (n : ℕ). min (bit_at x i) n) one ∙ few

masked : (x z mask count i : ℕ) → mask ≡ 2 ^ count - 1 → i < count → (bit_and x mask == bit_and z mask) ≡ true → bit_at x i ≡ bit_at z i
masked x z mask count i ones below same =
    sym (low_bit x mask count i ones below)
    ∙ ap (λ (n : ℕ). bit_at n i) (eqb-true (bit_and x mask) (bit_and z mask) same)
    ∙ low_bit z mask count i ones below

-- the element of a bit
of_bit : (a : Element) (n : ℕ) → n < 2 → n ≡ cond (element_eq a Y) 1 0 → 1 - n ≡ cond (element_eq a B) 1 0 → a ≡ element n
of_bit Y n small y b = ap element (sym y)
of_bit B n small y b = ap element (sym y)
of_bit Lost n small y b = absurd (omega (arith, y, b))

-- elements whose bits agree with a word, as far as a mask has bits
pub agreed : (y b bits mask count base : ℕ) (e : ℕ → Element) → mask ≡ 2 ^ count - 1 → count < 64 → bits < 2 ^ 64
    → ((bit_and y mask == bit_and bits mask) && (bit_and b mask == bit_and (bit_not w64 bits) mask)) ≡ true
    → IsPlanes y b base e → (i : ℕ) → i < count → e (base + i) ≡ element (bit_at bits i)
agreed y b bits mask count base e ones small fits same planes i below =
    let both = and_parts (bit_and y mask == bit_and bits mask) (bit_and b mask == bit_and (bit_not w64 bits) mask) same in
    let ys = masked y bits mask count i ones below both.0 in
    let bs = masked b (bit_not w64 bits) mask count i ones below both.1 in
    of_bit (e (base + i)) (bit_at bits i) (bit_at-lt bits i)
    (sym ys ∙ planes.ys.each i (omega arith))
    (sym (bit_at_not w64 bits i fits (omega arith)) ∙ sym bs ∙ planes.bs.each i (omega arith))

-- what holds of each of so many numbers
holds_from : (p : ℕ → Bool) (a n k : ℕ) → list_all p (range_with_len a n) ≡ true → a ≤ k → k < a + n → p k ≡ true
holds_from p a zero k h low high = absurd (omega arith)
holds_from p a (suc n) k h low high =
    let both = and_parts (p a) (list_all p (range_with_len (a + 1) n)) h in
    elim (cases_lt a k) [
      | inl past ↦ holds_from p (a + 1) n k both.1 (omega arith) (omega arith)
      | inr same ↦ let at : k ≡ a = omega arith in ap p at ∙ both.0
    ]

-- so many of the elements that are sent, from one on, are bits of a word
abbrev are_bits : ℕ → ℕ → ℕ → ℕ → Bool
are_bits format from count bits = list_all (λ i. element_eq (get_or (sent (start_symbols format) true) (from + i) Lost) (element (bit_at bits i))) (range_with_len 0 count)

bits_sent : (format from count bits i : ℕ) → are_bits format from count bits ≡ true → i < count → element (bit_at bits i) ≡ get_or (sent (start_symbols format) true) (from + i) Lost
bits_sent format from count bits i h below =
    sym (element_same _ _ (holds_from (λ i. element_eq (get_or (sent (start_symbols format) true) (from + i) Lost) (element (bit_at bits i))) 0 count i h (omega arith) (omega arith)))

early_slots : (format : ℕ) → are_bits format 200 60 SLOTS_0_TO_5 ≡ true
unfolding sent dots word_of
early_slots format = refl

later_slots : (format : ℕ) → are_bits format 260 60 SLOTS_6_TO_11 ≡ true
unfolding sent dots word_of
later_slots format = refl

-- the dots: B at even numbers and Y at odd ones
dots_sent : (format : ℕ) → list_all (λ n. element_eq (get_or (sent (start_symbols format) true) n Lost) (element (n % 2))) (range_with_len 0 200) ≡ true
unfolding sent dots word_of
dots_sent format = refl

dot_bits : list_all (λ n. bit_at DOTS n == n % 2) (range_with_len 0 64) ≡ true
dot_bits = refl

-- the dots of a reception are the last of those that are sent
dot_at : (format dots i : ℕ) → dots ≤ 63 → i < dots → element (bit_at (DOTS / 2 ^ (dots % 2)) i) ≡ get_or (sent (start_symbols format) true) (i + 200 - dots) Lost
dot_at format dots i few below =
    let bit : bit_at DOTS (dots % 2 + i) ≡ (dots % 2 + i) % 2 = eqb-true _ _ (holds_from (λ n. bit_at DOTS n == n % 2) 0 64 (dots % 2 + i) dot_bits (omega arith) (omega arith)) in
    let parity : (dots % 2 + i) % 2 ≡ (i + 200 - dots) % 2 = omega arith in
    ap element (bit_at-shr DOTS (dots % 2) i ∙ bit ∙ parity)
    ∙ sym (element_same _ _ (holds_from (λ n. element_eq (get_or (sent (start_symbols format) true) n Lost) (element (n % 2))) 0 200 (i + 200 - dots) (dots_sent format) (omega arith) (omega arith)))

-- slots 12 to 15 of each format specifier
ends_of : (format k : ℕ) → list_any (λ f. f == format) formats ≡ true → are_bits format 320 40 (get_or SLOTS_12_TO_15 k 0) ≡ true
    → (e : ℕ → Element) (base : ℕ) → ((i : ℕ) → i < 40 → e (base + i) ≡ element (bit_at (get_or SLOTS_12_TO_15 k 0) i)) → IsStartsEnd e base
ends_of format k known bits e base same = record {
  format = format;
  known = known;
  each = λ i below. same i below ∙ bits_sent format 320 40 (get_or SLOTS_12_TO_15 k 0) i bits below;
}

of_distress : are_bits DISTRESS 320 40 (get_or SLOTS_12_TO_15 0 0) ≡ true
unfolding sent dots word_of
of_distress = refl

of_all_ships : are_bits ALL_SHIPS 320 40 (get_or SLOTS_12_TO_15 1 0) ≡ true
unfolding sent dots word_of
of_all_ships = refl

of_area : are_bits AREA 320 40 (get_or SLOTS_12_TO_15 2 0) ≡ true
unfolding sent dots word_of
of_area = refl

of_group : are_bits GROUP 320 40 (get_or SLOTS_12_TO_15 3 0) ≡ true
unfolding sent dots word_of
of_group = refl

of_individual : are_bits INDIVIDUAL 320 40 (get_or SLOTS_12_TO_15 4 0) ≡ true
unfolding sent dots word_of
of_individual = refl

pub ends_start : (k : ℕ) → k < 5 → (e : ℕ → Element) (base : ℕ) → ((i : ℕ) → i < 40 → e (base + i) ≡ element (bit_at (get_or SLOTS_12_TO_15 k 0) i)) → IsStartsEnd e base
ends_start zero below e base same = ends_of DISTRESS 0 refl of_distress e base same
ends_start (suc zero) below e base same = ends_of ALL_SHIPS 1 refl of_all_ships e base same
ends_start (suc (suc zero)) below e base same = ends_of AREA 2 refl of_area e base same
ends_start (suc (suc (suc zero))) below e base same = ends_of GROUP 3 refl of_group e base same
ends_start (suc (suc (suc (suc zero)))) below e base same = ends_of INDIVIDUAL 4 refl of_individual e base same
ends_start (suc (suc (suc (suc (suc k))))) below e base same = absurd (omega (arith, below))

-- a reception of which the first elements are the last ones of the dots, and then those of slots 0 to 15
pub record IsWhole (e : List Element) (dots format : ℕ) : Type 0 where
  pub few : dots ≤ 63
  pub each : (i : ℕ) → i < dots + 160 → element_at e (150 + i) ≡ get_or (sent (start_symbols format) true) (i + 200 - dots) Lost

pub whole : (e : List Element) (dots : ℕ) → dots ≤ 63
    → ((i : ℕ) → i < dots → element_at e (150 + i) ≡ element (bit_at (DOTS / 2 ^ (dots % 2)) i))
    → ((i : ℕ) → i < 60 → element_at e (dots + 150 + i) ≡ element (bit_at SLOTS_0_TO_5 i))
    → ((i : ℕ) → i < 60 → element_at e (dots + 60 + 150 + i) ≡ element (bit_at SLOTS_6_TO_11 i))
    → (end : IsStartsEnd (element_at e) (dots + 2 * 60 + 150)) → IsWhole e dots end.format
whole e dots few first early later end = record {
  few = few;
  each =
      λ i below.
      let format = end.format in
      elim (cases_lt i dots) [
        | inl dot ↦ first i dot ∙ dot_at format dots i few dot
        | inr slot ↦ elim (cases_lt i (dots + 60)) [
          | inl six ↦
              let place : 150 + i ≡ dots + 150 + (i - dots) = omega arith in
              let index : 200 + (i - dots) ≡ i + 200 - dots = omega arith in
              ap (element_at e) place ∙ early (i - dots) (omega arith)
              ∙ bits_sent format 200 60 SLOTS_0_TO_5 (i - dots) (early_slots format) (omega arith)
              ∙ ap (λ (n : ℕ). get_or (sent (start_symbols format) true) n Lost) index
          | inr more ↦ elim (cases_lt i (dots + 2 * 60)) [
            | inl twelve ↦
                let place : 150 + i ≡ dots + 60 + 150 + (i - dots - 60) = omega arith in
                let index : 260 + (i - dots - 60) ≡ i + 200 - dots = omega arith in
                ap (element_at e) place ∙ later (i - dots - 60) (omega arith)
                ∙ bits_sent format 260 60 SLOTS_6_TO_11 (i - dots - 60) (later_slots format) (omega arith)
                ∙ ap (λ (n : ℕ). get_or (sent (start_symbols format) true) n Lost) index
            | inr last ↦
                let place : 150 + i ≡ dots + 2 * 60 + 150 + (i - dots - 2 * 60) = omega arith in
                let index : 320 + (i - dots - 2 * 60) ≡ i + 200 - dots = omega arith in
                ap (element_at e) place ∙ end.each (i - dots - 2 * 60) (omega arith)
                ∙ ap (λ (n : ℕ). get_or (sent (start_symbols format) true) n Lost) index
          ]
        ]
      ];
}

-- enough phasing symbols are right after the dots
whole_phased : (e : List Element) (dots format : ℕ) → IsWhole e dots format → is_phased e (150 + dots) ≡ true
whole_phased e dots format w =
    is_phased-near e (sent (start_symbols format) true) (150 + dots) 350
    (λ i below.
    let few : dots ≤ 63 = w.few in
    let place : 150 + dots + i ≡ 150 + (dots + i) = omega arith in
    let index : dots + i + 200 - dots ≡ 350 + i - 150 = omega arith in
    ap (element_at e) place ∙ w.each (dots + i) (omega arith)
    ∙ ap (λ (n : ℕ). get_or (sent (start_symbols format) true) n Lost) index
    ∙ sym (element_at-inside (sent (start_symbols format) true) (350 + i) (omega arith)))
    ∙ phased_start format true

-- the origin is after the dots
pub whole_start : (e : List Element) (dots format : ℕ) → list_any (λ f. f == format) formats ≡ true → IsWhole e dots format → lead_of e ≡ Some (150 + dots)
whole_start e dots format known w =
    found e (start_symbols format) true (150 + dots) format known refl (record {
      early = let few : dots ≤ 63 = w.few in omega arith;
      intact =
          λ i inside below.
          let few : dots ≤ 63 = w.few in
          let index : i ≡ 150 + i - 150 = omega arith in
          let sent_index : i + 200 - dots ≡ i + 150 + 200 - (150 + dots) = omega arith in
          inr (ap (λ (n : ℕ). get_or e n Lost) index ∙ sym (element_at-inside e (150 + i) (omega arith))
          ∙ w.each i (omega arith)
          ∙ ap (λ (n : ℕ). get_or (sent (start_symbols format) true) n Lost) sent_index);
      phased = whole_phased e dots format w;
    })
