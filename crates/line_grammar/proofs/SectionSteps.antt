-- the steps of the readers of sections
use Rattle.std.proofs.Common.{◌≡◌, ℕ, true, List, Result, Ok, Err, is_ok, IfOk, IsOkAnd, IfErr, IsErrAnd, sym, ◌∙◌, ap, subst, arith}
use Rattle.line_grammar.specs.Tokens.{Token}
use Rattle.line_grammar.specs.Grammar.{Grammar, word, field, either, Parts, part, first, second}
use Rattle.line_grammar.specs.inside.Reading.{after, read_token, and_then, and_part, named, further, read}
use Rattle.line_grammar.specs.Sections.{labelled, ReadsSection, ReadsForm}

-- a field after its label
pub no_label : {V : Type 0} (label : List ℕ) (token : Token) (parts : V → Parts → Parts) (old new : List ℕ) (r : Result V ℕ) (left : ℕ) → IsErrAnd r (λ y. y ≡ left)
    → after label old ≡ Err left → ReadsSection (labelled label token) parts old r new
unfolding read
no_label label token parts old new (Ok v) left h e = absurd h
no_label label token parts old new (Err n) left h e = λ rest. ap (λ (r : Result (List ℕ) ℕ). and_then r (read (field token rest))) e ∙ ap (λ (m : ℕ). Err m) (sym h)

-- a field reads as its token does after its label
pub field_answer : {V R : Type 0} (now : R → List ℕ) (label : List ℕ) (token : Token) (text : V → List ℕ) (old mid at new : List ℕ) (fields : Result (V × R) ℕ) (r : Result V ℕ)
    → after label old ≡ Ok mid → at ≡ mid → IfOk fields (λ p. read_token token at ≡ Ok (text p.0, now p.1)) → IfErr fields (λ left. read_token token at ≡ Err left)
    → IfOk r (λ v. IsOkAnd fields (λ p. (p.0 ≡ v) × (now p.1 ≡ new))) → IfErr r (λ left. fields ≡ Err left) → ReadsSection (labelled label token) (λ v. part (text v)) old r new
unfolding read
field_answer now label token text old mid at new (Ok p) (Ok v) e f h k l m =
    λ rest.
    ap (λ (r : Result (List ℕ) ℕ). and_then r (read (field token rest))) (e ∙ ap Ok (sym f))
    ∙ ap (λ (r : Result (List ℕ × List ℕ) ℕ). and_part r (read rest)) (h ∙ ap (λ (x : _). Ok (text x, now p.1)) l.0 ∙ ap (λ (x : List ℕ). Ok (text v, x)) l.1)
field_answer now label token text old mid at new (Err n) (Ok v) e f h k l m = absurd l
field_answer now label token text old mid at new (Ok p) (Err n) e f h k l m = absurd (cc)
field_answer now label token text old mid at new (Err x) (Err n) e f h k l m =
    λ rest.
    let same : x ≡ n = cc in
    ap (λ (r : Result (List ℕ) ℕ). and_then r (read (field token rest))) (e ∙ ap Ok (sym f))
    ∙ ap (λ (r : Result (List ℕ × List ℕ) ℕ). and_part r (read rest)) (k ∙ ap (λ (y : ℕ). Err y) same)

-- sections one after the other
named_twice : (f g : Parts → Parts) (r : Result Parts ℕ) → named f (named g r) ≡ named (λ p. f (g p)) r
named_twice f g r = grind arith

abbrev pub IsRead : (G : Grammar → Grammar) (f : Parts → Parts) (old new : List ℕ) → Type 0
IsRead G f old new = (rest : Grammar) → read (G rest) old ≡ named f (read rest new)

abbrev pub IsLeft : (G : Grammar → Grammar) (old : List ℕ) (left : ℕ) → Type 0
IsLeft G old left = (rest : Grammar) → read (G rest) old ≡ Err left

-- two sections were read
pub both : (G H : Grammar → Grammar) (f g : Parts → Parts) (old mid new : List ℕ) → IsRead G f old mid → IsRead H g mid new → IsRead (λ rest. G (H rest)) (λ p. f (g p)) old new
both G H f g old mid new h k rest = h (H rest) ∙ ap (named f) (k rest) ∙ named_twice f g (read rest new)

-- the first section was read and the second missed
pub behind : (G H : Grammar → Grammar) (f : Parts → Parts) (old mid : List ℕ) (left : ℕ) → IsRead G f old mid → IsLeft H mid left → IsLeft (λ rest. G (H rest)) old left
behind G H f old mid left h k rest = h (H rest) ∙ ap (named f) (k rest)

-- the exit of ? from a section
pub leaves : {V : Type 0} (G : Grammar → Grammar) (parts : V → Parts → Parts) (old new : List ℕ) (r : Result V ℕ) (left : ℕ) → IsErrAnd r (λ y. y ≡ left) → IsLeft G old left → ReadsSection G parts old r new
leaves G parts old new r left h k = grind arith

-- a word
named_same : (r : Result Parts ℕ) → r ≡ named (λ p. p) r
named_same r = grind arith

-- a word at the front is read
pub word_read : (text old mid : List ℕ) → after text old ≡ Ok mid → IsRead (word text) (λ p. p) old mid
unfolding read
word_read text old mid h rest = ap (λ (r : Result (List ℕ) ℕ). and_then r (read rest)) h ∙ named_same (read rest mid)

-- and one that was missed
pub word_left : (text old : List ℕ) (left : ℕ) → after text old ≡ Err left → IsLeft (word text) old left
unfolding read
word_left text old left h rest = ap (λ (r : Result (List ℕ) ℕ). and_then r (read rest)) h

-- what comes after a form to the end
pub whole : (G : Grammar → Grammar) (K : Grammar) (f : Parts → Parts) (old mid at : List ℕ) (own : Parts) → IsRead G f old mid → at ≡ mid → read K at ≡ Ok own → read (G K) old ≡ Ok (f own)
whole G K f old mid at own h s k = h K ∙ ap (λ (l : List ℕ). named f (read K l)) (sym s) ∙ ap (named f) k

-- and where that is missed
pub no_tail : (G : Grammar → Grammar) (K : Grammar) (f : Parts → Parts) (old mid at : List ℕ) (left : ℕ) → IsRead G f old mid → at ≡ mid → read K at ≡ Err left → read (G K) old ≡ Err left
no_tail G K f old mid at left h s k = h K ∙ ap (λ (l : List ℕ). named f (read K l)) (sym s) ∙ ap (named f) k

-- the exit of ? from a form
pub leaves_form : {V : Type 0} (G : Grammar) (place : Parts → Parts) (parts : V → Parts) (old bytes : List ℕ) (r : Result V ℕ) (left : ℕ) → old ≡ bytes → IsErrAnd r (λ y. y ≡ left)
    → read G old ≡ Err left → ReadsForm G place parts bytes r
leaves_form G place parts old bytes r left s h k = grind arith

-- one of two forms
pub either_form : {V : Type 0} (G H : Grammar) (place : Parts → Parts) (parts : V → Parts) (bytes : List ℕ) (r s : Result V ℕ) → ReadsForm G (λ p. place (first p)) parts bytes r
    → ReadsForm H (λ p. place (second p)) parts bytes s → ReadsForm (either G H) place parts bytes (further r s)
unfolding read
either_form G H place parts bytes (Ok v) s h k = (first h.0, ap (λ (x : Result Parts ℕ). further (named first x) (named second (read H bytes))) h.1, h.2)
either_form G H place parts bytes (Err m) (Ok v) h k =
    (second k.0, ap (λ (x : Result Parts ℕ). further (named first x) (named second (read H bytes))) h ∙ ap (λ (x : Result Parts ℕ). further (Err m) (named second x)) k.1, k.2)
either_form G H place parts bytes (Err m) (Err n) h k =
    ap (λ (x : Result Parts ℕ). further (named first x) (named second (read H bytes))) h ∙ ap (λ (x : Result Parts ℕ). further (Err m) (named second x)) k

-- where the first form was read, or the first wasn't and the second was, that is the answer
pub first_form : {V : Type 0} (G H : Grammar) (place : Parts → Parts) (parts : V → Parts) (bytes : List ℕ) (r : Result V ℕ) → is_ok r ≡ true
    → ReadsForm G (λ p. place (first p)) parts bytes r → ReadsForm (either G H) place parts bytes r
unfolding read
first_form G H place parts bytes (Ok v) ok h = (first h.0, ap (λ (x : Result Parts ℕ). further (named first x) (named second (read H bytes))) h.1, h.2)
first_form G H place parts bytes (Err m) ok h = absurd (cc)

-- the further of two answers, as code gives it
pub further_form : {V : Type 0} (G H : Grammar) (place : Parts → Parts) (parts : V → Parts) (bytes : List ℕ) (answer r s : Result V ℕ) → answer ≡ further r s
    → ReadsForm G (λ p. place (first p)) parts bytes r → ReadsForm H (λ p. place (second p)) parts bytes s → ReadsForm (either G H) place parts bytes answer
further_form G H place parts bytes answer r s e h k = subst (ReadsForm (either G H) place parts bytes) (sym e) (either_form G H place parts bytes r s h k)
