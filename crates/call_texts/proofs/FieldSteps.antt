-- the steps of the readers of fields
use Rattle.std.proofs.Common.{◌≡◌, ℕ, true, is_ok, List, ◌++◌, Result, Ok, Err, IfOk, IfErr, IsErrAnd, ◌∙◌, ap, arith}
use Rattle.line_grammar.specs.Shapes.{Shape, letters, pair, choice}
use Rattle.line_grammar.specs.inside.Reading.{read_shape, after, behind, and_shape, and_letters, further}

-- the exit of ? keeps the fault
pub passed_on : {A B : Type 0} (r : Result A ℕ) (left : ℕ) (answer : Result B ℕ) → IsErrAnd r (λ y. y ≡ left) → answer ≡ Err left → IfErr r (λ n. answer ≡ Err n)
passed_on r left answer h e = grind arith

-- letters were missed, or read
pub letters_missed : (text bytes : List ℕ) (left : ℕ) → after text bytes ≡ Err left → read_shape (letters text) bytes ≡ Err left
unfolding read_shape
letters_missed text bytes left e = ap (and_letters text) e

-- letters at the front are read
pub letters_read : (text bytes back : List ℕ) → after text bytes ≡ Ok back → read_shape (letters text) bytes ≡ Ok (text, back)
unfolding read_shape
letters_read text bytes back e = ap (and_letters text) e

-- of a pair the first was missed, or the second, or both were read
pub first_missed : (one two : Shape) (bytes : List ℕ) (left : ℕ) → read_shape one bytes ≡ Err left → read_shape (pair one two) bytes ≡ Err left
unfolding read_shape
first_missed one two bytes left e = ap (λ (a : Result (List ℕ × List ℕ) ℕ). and_shape a (read_shape two)) e

-- a pair stops where its second shape does
pub second_missed : (one two : Shape) (bytes front back : List ℕ) (left : ℕ) → read_shape one bytes ≡ Ok (front, back) → read_shape two back ≡ Err left → read_shape (pair one two) bytes ≡ Err left
unfolding read_shape
second_missed one two bytes front back left d e = ap (λ (a : Result (List ℕ × List ℕ) ℕ). and_shape a (read_shape two)) d ∙ ap (behind front) e

-- a pair is read where both of its shapes are
pub pair_read : (one two : Shape) (bytes front back text rest : List ℕ) → read_shape one bytes ≡ Ok (front, back) → read_shape two back ≡ Ok (text, rest) → read_shape (pair one two) bytes ≡ Ok (front ++ text, rest)
unfolding read_shape
pair_read one two bytes front back text rest d e = ap (λ (a : Result (List ℕ × List ℕ) ℕ). and_shape a (read_shape two)) d ∙ ap (behind front) e

-- an answer gives a value that shows what was read, or the fault
pub record Shows {T A : Type 0} (shown : T → A) (read : Result A ℕ) (r : Result T ℕ) : Type 0 where
  pub value : IfOk r (λ t. read ≡ Ok (shown t))
  pub left : IfErr r (λ n. read ≡ Err n)

-- the answer of two that is no fault, or else the further fault
further_of : {T A : Type 0} (shown : T → A) (a b : Result A ℕ) (r s : Result T ℕ) → Shows shown a r → Shows shown b s → Shows shown (further a b) (further r s)
further_of shown a b r s h k = grind arith

pub further_shows : {T A : Type 0} (shown : T → A) (a b : Result A ℕ) (r s t : Result T ℕ) → t ≡ further r s → Shows shown a r → Shows shown b s → Shows shown (further a b) t
further_shows shown a b r s t e h k = rw e (further_of shown a b r s h k)

-- a value by its text, and what follows it
abbrev pub text_and : {V R : Type 0} → (V → List ℕ) → (R → List ℕ) → V × R → List ℕ × List ℕ
text_and text now parts = (text parts.0, now parts.1)

-- letters that stand for a value
pub letters_show : {V R : Type 0} (text : V → List ℕ) (now : R → List ℕ) (v : V) (front : List ℕ) (read : Result (List ℕ × List ℕ) ℕ) (r : Result (V × R) ℕ)
    → front ≡ text v → IfOk r (λ p. p.0 ≡ v) → IfOk r (λ p. read ≡ Ok (front, now p.1)) → IfErr r (λ n. read ≡ Err n) → Shows (text_and text now) read r
letters_show text now v front read r e h k m = grind arith

-- a choice of two shapes
pub choice_shows : {V R : Type 0} (text : V → List ℕ) (now : R → List ℕ) (one two : Shape) (bytes : List ℕ) (r s t : Result (V × R) ℕ)
    → t ≡ further r s → Shows (text_and text now) (read_shape one bytes) r → Shows (text_and text now) (read_shape two bytes) s → Shows (text_and text now) (read_shape (choice one two) bytes) t
unfolding read_shape
choice_shows text now one two bytes r s t e h k = further_shows (text_and text now) (read_shape one bytes) (read_shape two bytes) r s t e h k

-- where the first of two shapes was read, that is the answer
pub first_shows : {V R : Type 0} (text : V → List ℕ) (now : R → List ℕ) (one two : Shape) (bytes : List ℕ) (r : Result (V × R) ℕ)
    → is_ok r ≡ true → Shows (text_and text now) (read_shape one bytes) r → Shows (text_and text now) (read_shape (choice one two) bytes) r
unfolding read_shape
first_shows text now one two bytes (Ok p) ok h = record { value = ap (λ x. further x (read_shape two bytes)) h.value; left = tt }
first_shows text now one two bytes (Err n) ok h = absurd (cc)
