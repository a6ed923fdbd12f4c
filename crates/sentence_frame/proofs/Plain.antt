-- accepted texts are plain: clean bytes without a comma
use Rattle.std.proofs.Common.{◌≡◌, ℕ, Bool, true, not, nat_eq, nat_le, List, [], ◌∷◌, length, get_or, refl, sym, ◌∙◌, ap, arith, inl, inr}
use Rattle.std.specs.List.{list_all}
use Rattle.std.proofs.lemmas.Bool.{and_parts, and_from, or_cases, eqb-true, false≢true}
use Rattle.std.proofs.lemmas.List.Folds.{list_all-append}
use Rattle.line_grammar.specs.Tokens.{is_digit}
use Rattle.sentence_frame.specs.Frames.{behind_commas}
use Rattle.sentence_frame.specs.Refusals.{is_clean}
use Rattle.sentence_frame.specs.Shapes as shape
use Rattle.sentence_frame.specs.Shapes.{Shape, accepts, are_digits, is_among, is_nothing, number_of}
use Rattle.sentence_frame.specs.inside.Fields.{is_plain, are_plain}
use Rattle.sentence_frame.proofs.Cuts.{is_comma, has_no_comma}

-- letters that fields may have
abbrev pub has_plain_letters : Shape → Bool
has_plain_letters (shape.letter letters) = are_plain letters
has_plain_letters (shape.maybe s) = has_plain_letters s
has_plain_letters _ = true

digit_plain : (b : ℕ) → is_digit b ≡ true → is_plain b ≡ true
digit_plain b h = grind arith

pub digits_plain : (t : List ℕ) → list_all is_digit t ≡ true → are_plain t ≡ true
digits_plain [] h = refl
digits_plain (b ∷ t) h =
    let k = and_parts (is_digit b) (list_all is_digit t) h in
    and_from (is_plain b) (are_plain t) (digit_plain b k.0) (digits_plain t k.1)

among_plain : (letters : List ℕ) (b : ℕ) → are_plain letters ≡ true → is_among letters b ≡ true → is_plain b ≡ true
among_plain [] b all h = absurd (false≢true h)
among_plain (c ∷ letters) b all h =
    let both = and_parts (is_plain c) (are_plain letters) all in
    elim (or_cases (nat_eq c b) (is_among letters b) h) [
      | inl here ↦ ap is_plain (sym (eqb-true c b here)) ∙ both.0
      | inr there ↦ among_plain letters b both.1 there
    ]

letter_plain : (letters t : List ℕ) → are_plain letters ≡ true → nat_eq (length t) 1 ≡ true → is_among letters (get_or t 0 0) ≡ true → are_plain t ≡ true
letter_plain letters [] all one h = absurd (false≢true one)
letter_plain letters (b ∷ []) all one h = and_from (is_plain b) true (among_plain letters b all h) refl
letter_plain letters (b ∷ c ∷ t) all one h = absurd (let e = eqb-true (length (b ∷ c ∷ t)) 1 one in omega (arith, e))

pub plain_text : (s : Shape) (t : List ℕ) → has_plain_letters s ≡ true → accepts s t ≡ true → are_plain t ≡ true
unfolding accepts
plain_text (shape.number width most) t p h =
    digits_plain t (and_parts (nat_eq (length t) width) (list_all is_digit t) (and_parts (are_digits width t) (nat_le (number_of t) most) h).0).1
plain_text (shape.code numbers) t p h =
    digits_plain t (and_parts (nat_eq (length t) 2) (list_all is_digit t) (and_parts (are_digits 2 t) (is_among numbers (number_of t)) h).0).1
plain_text (shape.digits width) t p h = digits_plain t (and_parts (nat_eq (length t) width) (list_all is_digit t) h).1
plain_text (shape.at_most width) t p h = digits_plain t (and_parts (nat_le (length t) width) (list_all is_digit t) h).1
plain_text (shape.letter letters) t p h =
    let k = and_parts (nat_eq (length t) 1) (is_among letters (get_or t 0 0)) h in
    letter_plain letters t p k.0 k.1
plain_text (shape.maybe s) [] p h = refl
plain_text (shape.maybe s) (b ∷ t) p h = plain_text s (b ∷ t) p h

-- plain texts after commas are clean, and none has a comma
plain_clean : (t : List ℕ) → are_plain t ≡ true → list_all is_clean t ≡ true
plain_clean [] h = refl
plain_clean (b ∷ t) h =
    let k = and_parts (is_plain b) (are_plain t) h in
    and_from (is_clean b) (list_all is_clean t) (and_parts (is_clean b) (not (is_comma b)) k.0).0 (plain_clean t k.1)

pub plain_free : (t : List ℕ) → are_plain t ≡ true → has_no_comma t ≡ true
plain_free [] h = refl
plain_free (b ∷ t) h =
    let k = and_parts (is_plain b) (are_plain t) h in
    and_from (not (is_comma b)) (has_no_comma t) (and_parts (is_clean b) (not (is_comma b)) k.0).1 (plain_free t k.1)

pub all_clean : (ts : List (List ℕ)) → list_all are_plain ts ≡ true → list_all is_clean (behind_commas ts) ≡ true
all_clean [] h = refl
all_clean (t ∷ ts) h =
    let k = and_parts (are_plain t) (list_all are_plain ts) h in
    list_all-append is_clean t (behind_commas ts)
    ∙ and_from (list_all is_clean t) (list_all is_clean (behind_commas ts)) (plain_clean t k.0) (all_clean ts k.1)

pub all_free : (ts : List (List ℕ)) → list_all are_plain ts ≡ true → list_all has_no_comma ts ≡ true
all_free [] h = refl
all_free (t ∷ ts) h =
    let k = and_parts (are_plain t) (list_all are_plain ts) h in
    and_from (has_no_comma t) (list_all has_no_comma ts) (plain_free t k.0) (all_free ts k.1)
