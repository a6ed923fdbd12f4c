-- rows that the first bytes of a line rule out, and the row that is found then
use Rattle.std.proofs.Common.{◌≡◌, ℕ, zero, suc, Bool, true, false, ◌&&◌, List, [], ◌∷◌, ◌++◌, length, Result, Ok, Err, is_ok, refl, sym, ap, subst, arith}
use Rattle.std.proofs.lemmas.Bool.{and_parts}
use Rattle.line_grammar.specs.Grammar.{Grammar, finish, anything, word, field, either, Parts, first, second}
use Rattle.line_grammar.specs.Sections.{last, ReadsForm, FindsForm}
use Rattle.line_grammar.specs.inside.Reading.{begins_with, after, and_then, named, further, read}
use Rattle.line_grammar.specs.Tokens.{is_one_of}
use Rattle.line_grammar.specs.inside.Soundness.{part_ways}
use Rattle.line_grammar.proofs.Chains.{after_list, word_missed, no_word, both_miss}
use Rattle.line_grammar.proofs.SectionSteps.{either_form, first_form}
use Rattle.line_grammar.proofs.Shapes.{part_fronts}

-- none of the rows begins with these bytes
abbrev pub is_ruled_out : List ℕ → Grammar → Bool
is_ruled_out front (word text rest) = part_ways text front
is_ruled_out front (either left right) = is_ruled_out front left && is_ruled_out front right
is_ruled_out front _ = false

-- nothing is read of it
abbrev pub IsMissed : Grammar → List ℕ → Type 0
IsMissed G bytes = is_ok (read G bytes) ≡ false

no_front : (text front back : List ℕ) (r : Result (List ℕ) ℕ) (rest : List ℕ → Result Parts ℕ) → part_ways text front ≡ true → after text (front ++ back) ≡ r → is_ok (and_then r rest) ≡ false
no_front text front back (Ok l) rest h e = absurd (part_fronts text front l back h (sym (after_list text (front ++ back) l e)))
no_front text front back (Err left) rest h e = refl

no_row : (r s : Result Parts ℕ) → is_ok r ≡ false → is_ok s ≡ false → is_ok (further (named first r) (named second s)) ≡ false
no_row r s h k = grind arith

out : (front back : List ℕ) (G : Grammar) → is_ruled_out front G ≡ true → IsMissed G (front ++ back)
unfolding read
out front back finish h = absurd (cc)
out front back anything h = absurd (cc)
out front back (word text rest) h = no_front text front back (after text (front ++ back)) (read rest) h refl
out front back (field token rest) h = absurd (cc)
out front back (either left right) h =
    let both = and_parts (is_ruled_out front left) (is_ruled_out front right) h in
    no_row (read left (front ++ back)) (read right (front ++ back)) (out front back left both.0) (out front back right both.1)

-- rows that the front of a line rules out
pub ruled_out : (front back bytes : List ℕ) (G : Grammar) → bytes ≡ front ++ back → is_ruled_out front G ≡ true → IsMissed G bytes
ruled_out front back bytes G e h = subst (IsMissed G) (sym e) (out front back G h)

-- a row that wasn't read is missed
pub fault_misses : {V : Type 0} (G : Grammar) (place : Parts → Parts) (parts : V → Parts) (bytes : List ℕ) (r : Result V ℕ) → is_ok r ≡ false → ReadsForm G place parts bytes r → IsMissed G bytes
fault_misses G place parts bytes r fails h = grind arith

-- a form that is found: the first one, one after a form that is missed, and one that was read
module _ {V : Type 0} (parts : V → Parts) (bytes : List ℕ) (place : Parts → Parts) where
  pub read_found : (G : Grammar) (r : Result V ℕ) → ReadsForm G place parts bytes r → FindsForm G place parts bytes r
  read_found G (Ok v) h = h
  read_found G (Err left) h = tt

  pub found_read : (G : Grammar) (r : Result V ℕ) → is_ok r ≡ true → FindsForm G place parts bytes r → ReadsForm G place parts bytes r
  found_read G (Ok v) ok h = h
  found_read G (Err left) ok h = absurd (cc)

  pub is_first : (G H : Grammar) (r : Result V ℕ) → FindsForm G (λ p. place (first p)) parts bytes r → FindsForm (either G H) place parts bytes r
  is_first G H (Ok v) h = first_form G H place parts bytes (Ok v) refl h
  is_first G H (Err left) h = tt

  after_fault : (G H : Grammar) (v : V) (r : Result Parts ℕ) → read G bytes ≡ r → is_ok r ≡ false → ReadsForm H (λ p. place (second p)) parts bytes (Ok v) → ReadsForm (either G H) place parts bytes (Ok v)
  after_fault G H v (Ok p) e missed h = absurd (cc)
  after_fault G H v (Err left) e missed h = either_form G H place parts bytes (Err left) (Ok v) e h

  pub not_first : (G H : Grammar) (r : Result V ℕ) → IsMissed G bytes → FindsForm H (λ p. place (second p)) parts bytes r → FindsForm (either G H) place parts bytes r
  not_first G H (Ok v) missed h = after_fault G H v (read G bytes) refl missed h
  not_first G H (Err left) missed h = tt

-- what is left of rows without so many, and that none of those begins with these bytes
abbrev pub rows_after : ℕ → Grammar → Grammar
rows_after (suc n) (either left right) = rows_after n right
rows_after _ G = G

abbrev pub are_ruled_out : ℕ → List ℕ → Grammar → Bool
are_ruled_out (suc n) front (either left right) = is_ruled_out front left && are_ruled_out n front right
are_ruled_out zero front G = true
are_ruled_out _ front G = false

-- a form that is found after so many that the front of the line rules out
pub later : {V : Type 0} (parts : V → Parts) (n : ℕ) (front back bytes : List ℕ) (r : Result V ℕ) (G : Grammar) (place : Parts → Parts) → bytes ≡ front ++ back → are_ruled_out n front G ≡ true
    → FindsForm (rows_after n G) (λ p. place (last n p)) parts bytes r → FindsForm G place parts bytes r
later parts zero front back bytes r G place e out h = h
later parts (suc n) front back bytes r (either left right) place e out h =
    let both = and_parts (is_ruled_out front left) (are_ruled_out n front right) out in
    not_first parts bytes place left right r (ruled_out front back bytes left e both.0) (later parts n front back bytes r right (λ p. place (second p)) e both.1 h)
later parts (suc n) front back bytes r finish place e out h = absurd (cc)
later parts (suc n) front back bytes r anything place e out h = absurd (cc)
later parts (suc n) front back bytes r (word text rest) place e out h = absurd (cc)
later parts (suc n) front back bytes r (field token rest) place e out h = absurd (cc)

-- each row begins with one of these letters
abbrev pub all_begin_with : List ℕ → Grammar → Bool
all_begin_with letters (word (c ∷ text) rest) = is_one_of letters c
all_begin_with letters (either left right) = all_begin_with letters left && all_begin_with letters right
all_begin_with letters _ = false

-- so a line that begins with another leaves them at once
pub leaves_at_once : (letters bytes : List ℕ) (G : Grammar) → all_begin_with letters G ≡ true → begins_with letters bytes ≡ false → read G bytes ≡ Err (length bytes)
unfolding after
leaves_at_once letters bytes finish h k = absurd (cc)
leaves_at_once letters bytes anything h k = absurd (cc)
leaves_at_once letters bytes (word [] rest) h k = absurd (cc)
leaves_at_once letters [] (word (c ∷ text) rest) h k = word_missed (c ∷ text) rest [] 0 refl
leaves_at_once letters (b ∷ bytes) (word (c ∷ text) rest) h k = no_word c text rest b bytes (λ same. let e = ap (is_one_of letters) same in absurd (cc))
leaves_at_once letters bytes (field token rest) h k = absurd (cc)
leaves_at_once letters bytes (either left right) h k =
    let both = and_parts (all_begin_with letters left) (all_begin_with letters right) h in
    both_miss left right bytes (length bytes) (length bytes) (length bytes) (leaves_at_once letters bytes left both.0 k) (leaves_at_once letters bytes right both.1 k) (omega arith)
