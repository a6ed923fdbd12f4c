-- accepted texts fit in a sentence
use Rattle.std.proofs.Common.{◌≡◌, ◌≢◌, ℕ, ◌+◌, ◌≤◌, true, nat_eq, nat_le, List, [], ◌∷◌, ◌++◌, length, get_or, drop, refl, arith, length-append}
use Rattle.std.specs.List.{list_all}
use Rattle.std.proofs.lemmas.Bool.{and_parts, and_from, eqb-true, leb-true}
use Rattle.line_grammar.specs.Tokens.{is_digit}
use Rattle.sentence_frame.specs.Frames.{behind_commas, sentence, ending, checksum}
use Rattle.sentence_frame.specs.Refusals.{Form, is_head}
use Rattle.sentence_frame.specs.Laws.{AreTexts}
use Rattle.sentence_frame.specs.Shapes as shape
use Rattle.sentence_frame.specs.Shapes.{Shape, accepts, are_digits, is_among, number_of}
use Rattle.sentence_frame.specs.inside.Fields.{are_plain}
use Rattle.sentence_frame.proofs.Plain.{has_plain_letters, plain_text}
use Rattle.sentence_frame.proofs.Sentences.{accepted, judged_ok}

-- the most bytes that a shape accepts, and those of fields of these shapes after commas
abbrev pub longest : Shape → ℕ
longest (shape.number width most) = width
longest (shape.code numbers) = 2
longest (shape.digits width) = width
longest (shape.at_most width) = width
longest (shape.letter letters) = 1
longest (shape.maybe s) = longest s

abbrev pub total : List Shape → ℕ
total [] = 0
total (s ∷ shapes) = 1 + longest s + total shapes

are_long : (width : ℕ) (t : List ℕ) → are_digits width t ≡ true → length t ≤ width
are_long width t h = let e = eqb-true (length t) width (and_parts (nat_eq (length t) width) (list_all is_digit t) h).0 in omega (arith, e)

text_short : (s : Shape) (t : List ℕ) → accepts s t ≡ true → length t ≤ longest s
unfolding accepts
text_short (shape.number width most) t h = are_long width t (and_parts (are_digits width t) (nat_le (number_of t) most) h).0
text_short (shape.code numbers) t h = are_long 2 t (and_parts (are_digits 2 t) (is_among numbers (number_of t)) h).0
text_short (shape.digits width) t h = are_long width t h
text_short (shape.at_most width) t h = leb-true (length t) width (and_parts (nat_le (length t) width) (list_all is_digit t) h).0
text_short (shape.letter letters) t h =
    let e = eqb-true (length t) 1 (and_parts (nat_eq (length t) 1) (is_among letters (get_or t 0 0)) h).0 in omega (arith, e)
text_short (shape.maybe s) [] h = omega arith
text_short (shape.maybe s) (b ∷ t) h = text_short s (b ∷ t) h

pub texts_short : (shapes : List Shape) (ts : List (List ℕ)) → length shapes ≡ length ts → accepted shapes ts ≡ true → length (behind_commas ts) ≤ total shapes
texts_short [] [] l h = omega arith
texts_short [] (t ∷ ts) l h = absurd (omega (arith, l))
texts_short (s ∷ shapes) [] l h = absurd (omega (arith, l))
texts_short (s ∷ shapes) (t ∷ ts) l h =
    let both = and_parts (accepts s t) (accepted shapes ts) h in
    let here = text_short s t both.0 in
    let there = texts_short shapes ts (omega (arith, l)) both.1 in
    omega (arith, here, there, length-append t (behind_commas ts))

pub texts_plain : (shapes : List Shape) (ts : List (List ℕ)) → length shapes ≡ length ts → list_all has_plain_letters shapes ≡ true → accepted shapes ts ≡ true → list_all are_plain ts ≡ true
texts_plain [] [] l p h = refl
texts_plain [] (t ∷ ts) l p h = absurd (omega (arith, l))
texts_plain (s ∷ shapes) [] l p h = absurd (omega (arith, l))
texts_plain (s ∷ shapes) (t ∷ ts) l p h =
    let both = and_parts (accepts s t) (accepted shapes ts) h in
    let letters = and_parts (has_plain_letters s) (list_all has_plain_letters shapes) p in
    and_from (are_plain t) (list_all are_plain ts) (plain_text s t letters.0 both.0) (texts_plain shapes ts (omega (arith, l)) letters.1 both.1)

pub sentence_short : (head : List ℕ) (ts : List (List ℕ)) (room : ℕ) → length (behind_commas ts) ≤ room → length head + room ≤ 77 → length (sentence head ts) ≤ 82
unfolding sentence
sentence_short head ts room h fits =
    let whole = head ++ behind_commas ts in
    omega (arith, h, fits, length-append whole (ending (checksum (drop 1 whole))), length-append head (behind_commas ts))

-- texts that are accepted and fit are those of the form
pub are_texts : (form : Form) (ts : List (List ℕ)) → is_head form.head ≡ true → ts ≢ [] → is_among form.counts (length ts) ≡ true → length (form.shapes ts) ≡ length ts → list_all has_plain_letters (form.shapes ts) ≡ true → length form.head + total (form.shapes ts) ≤ 77 → accepted (form.shapes ts) ts ≡ true → AreTexts form ts
are_texts form ts head some count same letters room all = record {
  head = head;
  some = some;
  count = count;
  plain = texts_plain (form.shapes ts) ts same letters all;
  accepted = judged_ok 1 (form.shapes ts) ts ts all;
  short = sentence_short form.head ts (total (form.shapes ts)) (texts_short (form.shapes ts) ts same all) room;
}
