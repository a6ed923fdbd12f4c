-- the fields of a DSE sentence, their texts and their values
use Rattle.std.proofs.Common.{◌≡◌, ◌≢◌, ℕ, suc, ◌<◌, ◌^◌, true, false, nat_eq, List, [], ◌∷◌, ◌++◌, length, get_or, ◌⊎◌, inl, inr, refl, sym, ◌∙◌, ap, subst, arith, codes}
use Rattle.std.proofs.lemmas.Bool.{or_cases, eqb-true, false≢true}
use Rattle.std.proofs.lemmas.List.{append-nil}
use Rattle.line_grammar.proofs.Digits.{one_number}
use Rattle.line_grammar.proofs.ShapesNumerals.{digits_length}
use Rattle.sentence_frame.specs.Shapes as shape
use Rattle.sentence_frame.specs.Shapes.{accepts, is_among, digits_of}
use Rattle.sentence_frame.specs.Texts.{digits, digit_text, IsDigits}
use Rattle.sentence_frame.proofs.FieldLaws.{IsKind, letter_text, digits_kind, one_value}
use Rattle.expansion.specs.declared.parts.PartKind.{PartKind}
use Rattle.expansion.specs.declared.parts.PartKind.TheVariants.{LeftOut, NoInformation, Digits}
use Rattle.expansion.specs.declared.values.Sets.{Sets}
use Rattle.expansion.specs.Expansions.{IsExpansion}
use Rattle.expansion.specs.Parts.{IsThere, IsUpTo}
use Rattle.dsc_sentences.specs.declared.dse.Flag.{Flag}
use Rattle.dsc_sentences.specs.declared.dse.Flag.TheVariants.{A, Q, R}
use Rattle.dsc_sentences.specs.declared.dse.DseFields.{DseFields}
use Rattle.dsc_sentences.specs.Dse.{flag_text, set_texts, expansion_texts, texts, IsDse}
use Rattle.dsc_sentences.specs.inside.DseReading.{flag_in}

flag_shown : (f : Flag) → accepts (shape.letter (codes "AQR")) (flag_text f) ≡ true
unfolding accepts
flag_shown A = refl
flag_shown Q = refl
flag_shown R = refl

flag_back : (f : Flag) → flag_in (flag_text f) ≡ f
flag_back f = grind arith

flag_letter : (b : ℕ) → is_among (codes "AQR") b ≡ true → flag_text (flag_in (b ∷ [])) ≡ b ∷ []
flag_letter b h = grind arith

-- the flag is a letter, written and read back
pub flag_kind : IsKind (shape.letter (codes "AQR")) flag_text flag_in (λ f. Unit {0})
flag_kind = record {
  shown = λ f h. flag_shown f;
  back = λ f h. flag_back f;
  fits = λ t h. tt;
  again = λ t h.
      let k = letter_text (codes "AQR") t h in
      ap (λ (l : List ℕ). flag_text (flag_in l)) k.0 ∙ flag_letter (get_or t 0 0) k.1 ∙ sym k.0;
}

pub one_shown : accepts (shape.letter (codes "1")) (codes "1") ≡ true
unfolding accepts
one_shown = refl

pub one_again : (t : List ℕ) → accepts (shape.letter (codes "1")) t ≡ true → codes "1" ≡ t
one_again t h =
    let k = letter_text (codes "1") t h in
    elim (or_cases (nat_eq 49 (get_or t 0 0)) false k.1) [
      | inl here ↦ ap (λ (c : ℕ). c ∷ []) (eqb-true 49 (get_or t 0 0) here) ∙ sym k.0
      | inr none ↦ absurd (false≢true none)
    ]

-- some set is there
pub some_there : (e s c : PartKind) → set_texts 0 8 e ++ (set_texts 2 4 s ++ set_texts 3 4 c) ≢ [] → IsThere e ⊎ IsThere s ⊎ IsThere c
some_there e s c h = grind arith

-- the texts of a set, before others that don't begin with its code, show what it says
abbrev pub BeginsOther : ℕ → List (List ℕ) → Type 0
BeginsOther n [] = Unit {0}
BeginsOther n (c ∷ ts) = c ≢ digits 2 n

no_data : (width n : ℕ) → [] ≢ digits (suc width) n
no_data width n e = omega (arith, ap length e, digits_length (suc width) n)

set_apart : (n width most : ℕ) (p q : PartKind) (r s : List (List ℕ)) → most < 10 ^ suc width → IsUpTo most p → IsUpTo most q → BeginsOther n r → BeginsOther n s
    → set_texts n (suc width) p ++ r ≡ set_texts n (suc width) q ++ s → (p ≡ q) × (r ≡ s)
set_apart n width most LeftOut LeftOut r s room hp hq hr hs e = (refl, e)
set_apart n width most LeftOut NoInformation [] s room hp hq hr hs e = absurd (cc)
set_apart n width most LeftOut NoInformation (c ∷ r) s room hp hq hr hs e = absurd (hr (cc))
set_apart n width most LeftOut (Digits m) [] s room hp hq hr hs e = absurd (cc)
set_apart n width most LeftOut (Digits m) (c ∷ r) s room hp hq hr hs e = absurd (hr (cc))
set_apart n width most NoInformation LeftOut r [] room hp hq hr hs e = absurd (cc)
set_apart n width most NoInformation LeftOut r (c ∷ s) room hp hq hr hs e = absurd (hs (let k = sym e in cc))
set_apart n width most (Digits l) LeftOut r [] room hp hq hr hs e = absurd (cc)
set_apart n width most (Digits l) LeftOut r (c ∷ s) room hp hq hr hs e = absurd (hs (let k = sym e in cc))
set_apart n width most NoInformation NoInformation r s room hp hq hr hs e = (refl, (cc))
set_apart n width most NoInformation (Digits m) r s room hp hq hr hs e = absurd (no_data width m (cc))
set_apart n width most (Digits l) NoInformation r s room hp hq hr hs e = absurd (no_data width l (let k : digits (suc width) l ≡ [] = cc in sym k))
set_apart n width most (Digits l) (Digits m) r s room hp hq hr hs e =
    let same : digits (suc width) l ≡ digits (suc width) m = cc in
    (ap Digits (one_number (suc width) l m (omega (arith, hp, room)) (omega (arith, hq, room)) same), (cc))

other_code : (m n : ℕ) → m < 100 → n < 100 → m ≢ n → digits 2 m ≢ digits 2 n
other_code m n hm hn ne e = ne (one_number 2 m n hm hn e)

pub behind_code : (n m : ℕ) (width : ℕ) (c : PartKind) (ts : List (List ℕ)) → n < 100 → m < 100 → m ≢ n → BeginsOther n ts → BeginsOther n (set_texts m width c ++ ts)
behind_code n m width LeftOut ts hn hm ne h = h
behind_code n m width NoInformation ts hn hm ne h = other_code m n hm hn ne
behind_code n m width (Digits k) ts hn hm ne h = other_code m n hm hn ne

unfoldable made : PartKind → PartKind → PartKind → Sets
made e s c = record { enhanced = e; speed = s; course = c }

made_same : (x y : Sets) → x.enhanced ≡ y.enhanced → x.speed ≡ y.speed → x.course ≡ y.course → made x.enhanced x.speed x.course ≡ made y.enhanced y.speed y.course
made_same x y e s c = cc

same_sets : (x y : Sets) → x.enhanced ≡ y.enhanced → x.speed ≡ y.speed → x.course ≡ y.course → x ≡ y
unfolding made
same_sets x y e s c = made_same x y e s c

one_expansion : (x y : Sets) → IsExpansion x → IsExpansion y → expansion_texts x ≡ expansion_texts y → x ≡ y
one_expansion x y hx hy e =
    let later = λ (z : Sets). set_texts 2 4 z.speed ++ set_texts 3 4 z.course in
    let last = λ (z : Sets). set_texts 3 4 z.course in
    let end = λ (n : ℕ) (z : Sets) (small : n < 100) (ne : 3 ≢ n). (let k = behind_code n 3 4 z.course [] small (omega arith) ne tt in
    subst (λ (l : List (List ℕ)). BeginsOther n l) (append-nil (last z)) k) in
    let middle = λ (z : Sets). behind_code 0 2 4 z.speed (last z) (omega arith) (omega arith) (λ (q : 2 ≡ 0). omega (arith, q)) (end 0 z (omega arith) (λ (q : 3 ≡ 0). omega (arith, q))) in
    let first = set_apart 0 7 99999999 x.enhanced y.enhanced (later x) (later y) (omega arith) hx.enhanced hy.enhanced (middle x) (middle y) e in
    let second = set_apart 2 3 9999 x.speed y.speed (last x) (last y) (omega arith) hx.speed hy.speed
    (end 2 x (omega arith) (λ (q : 3 ≡ 2). omega (arith, q))) (end 2 y (omega arith) (λ (q : 3 ≡ 2). omega (arith, q))) first.1 in
    let third = set_apart 3 3 3599 x.course y.course [] [] (omega arith) hx.course hy.course tt tt
    (append-nil (last x) ∙ second.1 ∙ sym (append-nil (last y))) in
    same_sets x y first.0 second.0 third.0

unfoldable whole : Flag → List ℕ → Sets → DseFields
whole flag address expansion = record { flag = flag; address = address; expansion = expansion }

whole_same : (v w : DseFields) → v.flag ≡ w.flag → v.address ≡ w.address → v.expansion ≡ w.expansion → whole v.flag v.address v.expansion ≡ whole w.flag w.address w.expansion
whole_same v w a b c = cc

same_whole : (v w : DseFields) → v.flag ≡ w.flag → v.address ≡ w.address → v.expansion ≡ w.expansion → v ≡ w
unfolding whole
same_whole v w a b c = whole_same v w a b c

-- two lawful records with the same texts are one
pub one_record : (v w : DseFields) → IsDse v → IsDse w → texts v ≡ texts w → v ≡ w
unfolding texts
one_record v w hv hw e =
    let e1 = one_value (shape.letter (codes "AQR")) flag_text flag_in (λ f. Unit {0}) flag_kind v.flag w.flag tt tt (cc) in
    let e2 = one_value (shape.digits 10) digit_text digits_of (IsDigits 10) (digits_kind 10) v.address w.address hv.address hw.address (cc) in
    let e3 = one_expansion v.expansion w.expansion hv.expansion hw.expansion (cc) in
    same_whole v w e1 e2 e3
