-- lost slots are overwritten in what was sent
use Rattle.std.proofs.Common.{◌≡◌, ℕ, ◌+◌, ◌*◌, ◌<◌, ◌≤◌, ◌++◌, List, Option, Some, IfSome, IsSome, IsNone, map, flat_map, take, drop, length, slice_index, replicate, false, true, refl, sym, ap, ◌∙◌, append_assoc, append-nil, length-append, arith}
use Rattle.std.specs.List.{range_with_len, list_all}
use Rattle.std.proofs.lemmas.Bool.{cond-true, cond-false}
use Rattle.std.proofs.lemmas.List.{drop_all, drop_more, take_at, drop_at, take-map, drop-map, map-append, length-map}
use Rattle.std.proofs.lemmas.List.FromFn.{length-map-range_with_len}
use Rattle.ten_unit.specs.declared.character.Element.{Element}
use Rattle.ten_unit.specs.declared.character.Element.TheVariants.{B}
use Rattle.ten_unit.specs.Word.{word_of}
use Rattle.ten_unit.specs.Signs.{element_of, is_sign}
use Rattle.ten_unit.proofs.PublicLaws.{length-word}
use Rattle.phasing.specs.Sent.{dot, dots, sent}
use Rattle.input_lines.specs.ReceiverLine.{sign_of}
use Rattle.input_lines.proofs.PublicLaws.{elements_again, all_signs, packed_some, packed_are}
use Rattle.generated_join.specs.Generator.{heard_of, is_lost, slot_heard}
use Rattle.generated_join.proofs.Ranges.{flat_more}

-- what was heard of the first slots, and what was sent in the others
pub record Overwritten (k j : ℕ) (slots : List ℕ) (n : ℕ) (elements : List Element) : Type 0 where
  pub front : List Element
  pub heard : front ≡ dots 20 ++ flat_map (λ slot. slot_heard k j slot (slice_index slots slot)) (range_with_len 0 n)
  pub long : length front ≡ 20 + 10 * n
  pub rest : elements ≡ front ++ flat_map word_of (drop n slots)

twenty_dots : length (dots 20) ≡ 20
unfolding dots
twenty_dots = length-map-range_with_len dot 0 20

-- nothing is overwritten yet
pub overwritten_none : (k j : ℕ) (slots : List ℕ) (elements : List Element) → elements ≡ sent slots false → Overwritten k j slots 0 elements
unfolding sent
overwritten_none k j slots elements e = record { front = dots 20; heard = sym (append-nil (dots 20)); long = twenty_dots; rest = e }

-- the front of what is left to send
first_left : (k j : ℕ) (slots : List ℕ) (n : ℕ) (elements : List Element) (o : Overwritten k j slots n elements) → n < length slots
    → elements ≡ o.front ++ (word_of (slice_index slots n) ++ flat_map word_of (drop (n + 1) slots))
first_left k j slots n elements o inside =
    o.rest ∙ ap (λ (l : List ℕ). o.front ++ flat_map word_of l) (drop_more slots n 0 inside)

-- one slot more, of which this was heard
one_more : (k j : ℕ) (slots : List ℕ) (n : ℕ) (elements new word : List Element) (o : Overwritten k j slots n elements)
    → slot_heard k j n (slice_index slots n) ≡ word → length word ≡ 10 → new ≡ o.front ++ (word ++ flat_map word_of (drop (n + 1) slots)) → Overwritten k j slots (n + 1) new
one_more k j slots n elements new word o h long e =
    let f : ℕ → List Element = λ slot. slot_heard k j slot (slice_index slots slot) in
    let before = flat_map f (range_with_len 0 n) in
    record {
      front = o.front ++ word;
      heard =
          ap (λ (l : List Element). l ++ word) o.heard
          ∙ append_assoc (dots 20) before word
          ∙ ap (λ (l : List Element). dots 20 ++ (before ++ l)) (sym h)
          ∙ ap (λ (l : List Element). dots 20 ++ l) (sym (flat_more f n));
      long = (omega (arith, length-append o.front word, o.long, long));
      rest = e ∙ sym (append_assoc o.front word (flat_map word_of (drop (n + 1) slots)));
    }

-- each slot has its place
pub slot_inside : (k j : ℕ) (slots : List ℕ) (n : ℕ) (elements : List Element) → Overwritten k j slots n elements → n < length slots → 20 + 10 * n + 10 ≤ length elements
slot_inside k j slots n elements o inside =
    let word = word_of (slice_index slots n) in
    let back = flat_map word_of (drop (n + 1) slots) in
    omega (arith, ap length (first_left k j slots n elements o inside), length-append o.front (word ++ back), length-append word back, length-word (slice_index slots n), o.long)

-- a slot that isn't lost stays as it was sent
pub overwritten_kept : (k j : ℕ) (slots : List ℕ) (n : ℕ) (elements : List Element) → Overwritten k j slots n elements → n < length slots → is_lost k j n ≡ false → Overwritten k j slots (n + 1) elements
overwritten_kept k j slots n elements o inside h =
    let word = word_of (slice_index slots n) in
    one_more k j slots n elements elements word o (cond-false (is_lost k j n) (replicate 10 B) word h) (length-word (slice_index slots n)) (first_left k j slots n elements o inside)

-- a lost slot is overwritten
pub overwritten_lost : (k j : ℕ) (slots : List ℕ) (n : ℕ) (elements new : List Element) → Overwritten k j slots n elements → n < length slots → is_lost k j n ≡ true
    → new ≡ take (20 + 10 * n) elements ++ (replicate 10 B ++ drop (20 + 10 * n + 10) elements) → Overwritten k j slots (n + 1) new
overwritten_lost k j slots n elements new o inside h e =
    let word = word_of (slice_index slots n) in
    let back = flat_map word_of (drop (n + 1) slots) in
    let is = first_left k j slots n elements o inside in
    let front : take (20 + 10 * n) elements ≡ o.front = ap (take (20 + 10 * n)) is ∙ take_at o.front (word ++ back) (20 + 10 * n) o.long in
    let both : length (o.front ++ word) ≡ 20 + 10 * n + 10 = omega (arith, length-append o.front word, o.long, length-word (slice_index slots n)) in
    let rest : drop (20 + 10 * n + 10) elements ≡ back = ap (drop (20 + 10 * n + 10)) (is ∙ sym (append_assoc o.front word back)) ∙ drop_at (o.front ++ word) back (20 + 10 * n + 10) both in
    one_more k j slots n elements new (replicate 10 B) o (cond-true (is_lost k j n) (replicate 10 B) word h) refl (e ∙ ap (λ (l : List Element). l ++ (replicate 10 B ++ drop (20 + 10 * n + 10) elements)) front ∙ ap (λ (l : List Element). o.front ++ (replicate 10 B ++ l)) rest)

-- what was heard in all
pub overwritten_all : (k j : ℕ) (slots : List ℕ) (n : ℕ) (elements : List Element) → Overwritten k j slots n elements → n ≡ length slots → elements ≡ heard_of k j slots
unfolding heard_of
overwritten_all k j slots n elements o all =
    let f : ℕ → List Element = λ slot. slot_heard k j slot (slice_index slots slot) in
    o.rest
    ∙ ap (λ (l : List ℕ). o.front ++ flat_map word_of l) (drop_all n slots (omega (arith, all)))
    ∙ append-nil o.front
    ∙ o.heard
    ∙ ap (λ (m : ℕ). dots 20 ++ flat_map f (range_with_len 0 m)) all

-- the same of the signs
pub record SignsOverwritten (k j : ℕ) (slots : List ℕ) (n : ℕ) (signs : List ℕ) : Type 0 where
  pub elements : List Element
  pub overwritten : Overwritten k j slots n elements
  pub are : signs ≡ map sign_of elements

pub signs_none : (k j : ℕ) (slots signs : List ℕ) → signs ≡ map sign_of (sent slots false) → SignsOverwritten k j slots 0 signs
signs_none k j slots signs e = record { elements = sent slots false; overwritten = overwritten_none k j slots (sent slots false) refl; are = e }

pub sign_inside : (k j : ℕ) (slots : List ℕ) (n : ℕ) (signs : List ℕ) → SignsOverwritten k j slots n signs → n < length slots → 20 + 10 * n + 10 ≤ length signs
sign_inside k j slots n signs o inside =
    omega (arith, slot_inside k j slots n o.elements o.overwritten inside, ap length o.are, length-map {B = ℕ} o.elements)

pub signs_kept : (k j : ℕ) (slots : List ℕ) (n : ℕ) (signs : List ℕ) → SignsOverwritten k j slots n signs → n < length slots → is_lost k j n ≡ false → SignsOverwritten k j slots (n + 1) signs
signs_kept k j slots n signs o inside h = record { elements = o.elements; overwritten = overwritten_kept k j slots n o.elements o.overwritten inside h; are = o.are }

pub signs_lost : (k j : ℕ) (slots : List ℕ) (n : ℕ) (signs new : List ℕ) → SignsOverwritten k j slots n signs → n < length slots → is_lost k j n ≡ true
    → new ≡ take (20 + 10 * n) signs ++ (map sign_of (replicate 10 B) ++ drop (20 + 10 * n + 10) signs) → SignsOverwritten k j slots (n + 1) new
signs_lost k j slots n signs new o inside h e =
    let at = 20 + 10 * n in
    let past = 20 + 10 * n + 10 in
    let front = take at o.elements in
    let back = drop past o.elements in
    record {
      elements = front ++ (replicate 10 B ++ back);
      overwritten = overwritten_lost k j slots n o.elements (front ++ (replicate 10 B ++ back)) o.overwritten inside h refl;
      are =
          e
          ∙ ap (λ (l : List ℕ). take at l ++ (map sign_of (replicate 10 B) ++ drop past l)) o.are
          ∙ ap (λ (l : List ℕ). l ++ (map sign_of (replicate 10 B) ++ drop past (map sign_of o.elements))) (take-map sign_of at o.elements)
          ∙ ap (λ (l : List ℕ). map sign_of front ++ (map sign_of (replicate 10 B) ++ l)) (drop-map sign_of past o.elements)
          ∙ ap (λ (l : List ℕ). map sign_of front ++ l) (sym (map-append sign_of (replicate 10 B) back))
          ∙ sym (map-append sign_of front (replicate 10 B ++ back));
    }

pub signs_all : (k j : ℕ) (slots : List ℕ) (n : ℕ) (signs : List ℕ) → SignsOverwritten k j slots n signs → n ≡ length slots → signs ≡ map sign_of (heard_of k j slots)
signs_all k j slots n signs o all = o.are ∙ ap (map sign_of) (overwritten_all k j slots n o.elements o.overwritten all)

-- signs of elements are packed
pub packed : (signs : List ℕ) (e : List Element) (read : Option (List Element)) → signs ≡ map sign_of e → (IsNone read → list_all is_sign signs ≡ false) → IsSome read
packed signs e read are none = packed_some signs read (ap (list_all is_sign) are ∙ all_signs e) none

pub packed_elements : (signs : List ℕ) (e p : List Element) (read : Option (List Element)) → signs ≡ map sign_of e → read ≡ Some p
    → IfSome read (λ p. (list_all is_sign signs ≡ true) × (p ≡ map element_of signs)) → p ≡ e
packed_elements signs e p read are is some = packed_are signs p read is some ∙ ap (map element_of) are ∙ elements_again e
