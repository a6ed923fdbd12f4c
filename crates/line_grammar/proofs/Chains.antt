-- reading a grammar step by step, and where the first fault is
use Rattle.std.proofs.Common.{◌≡◌, ◌≢◌, ℕ, suc, ◌≤◌, ◌==◌, Bool, true, if◌then◌else◌, min, List, [], ◌∷◌, ◌++◌, length, Result, Ok, Err, IfErr, IsErrAnd, refl, sym, ◌∙◌, ap, arith}
use Rattle.std.specs.List.{list_all}
use Rattle.std.proofs.lemmas.Bool.{cond-false, ne_eqb}
use Rattle.line_grammar.specs.Tokens.{Token, run, is_one_of}
use Rattle.line_grammar.specs.Grammar.{Grammar, finish, word, field, either, Parts, part, first, second, Spells, none}
use Rattle.line_grammar.specs.inside.Soundness.{is_some_token, is_sound}
use Rattle.line_grammar.specs.inside.Reading.{ended, after, read_token, and_then, and_part, named, further, read}
use Rattle.line_grammar.proofs.Stops.{left_le}
use Rattle.line_grammar.proofs.Tokens.{TokenReads}
use Rattle.line_grammar.proofs.Munching.{token_reads}
use Rattle.line_grammar.proofs.Repeats.{read_stops}

-- the exit of ? keeps what was said of the fault
pub passed : {A : Type 0} (P : ℕ → Type 0) (r : Result A ℕ) (left : ℕ) → IsErrAnd r (λ y. y ≡ left) → P left → IfErr r P
passed P r left h p = grind arith

-- what was read stood there
after_step : (c b : ℕ) (text bytes back : List ℕ) (t : Bool) → (b == c) ≡ t → (after text bytes ≡ Ok back → bytes ≡ text ++ back)
    → (if t then after text bytes else Err (suc (length bytes))) ≡ Ok back → b ∷ bytes ≡ c ∷ (text ++ back)
after_step c b text bytes back t e more h = grind arith

-- after a word that was read come the bytes that are left
pub after_list : (text bytes back : List ℕ) → after text bytes ≡ Ok back → bytes ≡ text ++ back
unfolding after
after_list [] bytes back h = let e : bytes ≡ back = cc in e
after_list (c ∷ text) [] back h = absurd (cc)
after_list (c ∷ text) (b ∷ bytes) back h = after_step c b text bytes back (b == c) refl (after_list text bytes back) h

run_is : (signs bytes : List ℕ) (r : Result (List ℕ × List ℕ) ℕ) (front back : List ℕ) → TokenReads (run signs) bytes r → r ≡ Ok (front, back)
    → (bytes ≡ front ++ back) × (front ≢ []) × (list_all (is_one_of signs) front ≡ true)
run_is signs bytes r front back h e = grind arith

-- a run of signs was read
pub run_list : (signs bytes front back : List ℕ) → is_some_token (run signs) ≡ true → read_token (run signs) bytes ≡ Ok (front, back)
    → (bytes ≡ front ++ back) × (front ≢ []) × (list_all (is_one_of signs) front ≡ true)
run_list signs bytes front back some h = run_is signs bytes (read_token (run signs) bytes) front back (token_reads (run signs) bytes some) h

-- where a step misses, the grammar does, and where what follows misses
pub word_missed : (text : List ℕ) (rest : Grammar) (bytes : List ℕ) (left : ℕ) → after text bytes ≡ Err left → read (word text rest) bytes ≡ Err left
unfolding read
word_missed text rest bytes left h = ap (λ (r : Result (List ℕ) ℕ). and_then r (read rest)) h

-- the fault is after a word that was read
pub word_on : (text : List ℕ) (rest : Grammar) (bytes back : List ℕ) (left : ℕ) → after text bytes ≡ Ok back → read rest back ≡ Err left → read (word text rest) bytes ≡ Err left
unfolding read
word_on text rest bytes back left h k = ap (λ (r : Result (List ℕ) ℕ). and_then r (read rest)) h ∙ k

-- the fault is in the token
pub token_missed : (token : Token) (rest : Grammar) (bytes : List ℕ) (left : ℕ) → read_token token bytes ≡ Err left → read (field token rest) bytes ≡ Err left
unfolding read
token_missed token rest bytes left h = ap (λ (r : Result (List ℕ × List ℕ) ℕ). and_part r (read rest)) h

-- or after it
pub token_on : (token : Token) (rest : Grammar) (bytes front back : List ℕ) (left : ℕ) → read_token token bytes ≡ Ok (front, back) → read rest back ≡ Err left → read (field token rest) bytes ≡ Err left
unfolding read
token_on token rest bytes front back left h k =
    ap (λ (r : Result (List ℕ × List ℕ) ℕ). and_part r (read rest)) h ∙ ap (λ (r : Result Parts ℕ). named (part front) r) k

-- the end stops where something is left
pub end_missed : (bytes : List ℕ) (left : ℕ) → ended bytes ≡ Err left → read finish bytes ≡ Err left
unfolding read
end_missed bytes left h = h

-- a fault has no more bytes left than there are
pub fault_within : (G : Grammar) (bytes : List ℕ) (left : ℕ) → is_sound G ≡ true → read G bytes ≡ Err left → left ≤ length bytes
fault_within G bytes left sound e = left_le (Spells G) bytes left (read_stops G bytes left sound e)

-- of two choices that miss, the further fault
pub both_miss : (one two : Grammar) (bytes : List ℕ) (m n left : ℕ) → read one bytes ≡ Err m → read two bytes ≡ Err n → left ≡ min m n → read (either one two) bytes ≡ Err left
unfolding read
both_miss one two bytes m n left h k e =
    ap (λ (r : Result Parts ℕ). further (named first r) (named second (read two bytes))) h
    ∙ ap (λ (r : Result Parts ℕ). further (Err m) (named second r)) k
    ∙ ap (λ (i : ℕ). Err i) (sym e)

-- the end is missed where there is a byte
pub no_end : (b : ℕ) (bytes : List ℕ) → read finish (b ∷ bytes) ≡ Err (suc (length bytes))
unfolding read ended
no_end b bytes = refl

-- and a word where there is another byte, or none
pub no_word : (c : ℕ) (text : List ℕ) (rest : Grammar) (b : ℕ) (bytes : List ℕ) → (b ≡ c → ⊥) → read (word (c ∷ text) rest) (b ∷ bytes) ≡ Err (suc (length bytes))
unfolding read after
no_word c text rest b bytes h =
    ap (λ (r : Result (List ℕ) ℕ). and_then r (read rest)) (cond-false (b == c) (after text bytes) (Err (suc (length bytes))) (ne_eqb b c h))

-- where the line ends, no bytes are left
pub end_nil : (bytes : List ℕ) → ended bytes ≡ Ok none → bytes ≡ []
unfolding ended
end_nil [] h = refl
end_nil (b ∷ bytes) h = absurd (cc)

-- what spells the end of a line is no bytes
pub finished : (parts : Parts) (bytes : List ℕ) → Spells finish parts bytes → bytes ≡ []
finished parts bytes h = grind arith
