-- the plain reader of a sound grammar answers for its language
use Rattle.std.proofs.Common.{◌≡◌, ℕ, suc, ◌<◌, Bool, true, false, ◌==◌, ◌&&◌, if◌then◌else◌, List, [], ◌∷◌, ◌++◌, length, Result, Ok, Err, ◌⊎◌, refl, sym, ap, subst, arith}
use Rattle.std.proofs.lemmas.Bool.{and_parts, eqb-true, eqb-false}
use Rattle.line_grammar.specs.Columns.{Begins}
use Rattle.line_grammar.specs.Tokens.{Token}
use Rattle.line_grammar.specs.Grammar.{Grammar, finish, anything, word, field, either, Parts, none, part, first, second, Spells}
use Rattle.line_grammar.specs.inside.Soundness.{may_follow, is_some_token, is_sound}
use Rattle.line_grammar.specs.inside.Reading.{ended, after, read_token, and_then, named, and_part, further, read}
use Rattle.line_grammar.proofs.Stops.{Stops, Reads, IsChoice, Stops-choice}
use Rattle.line_grammar.proofs.Words.{IsByte, Stops-byte, Stops-other, Stops-short}
use Rattle.line_grammar.proofs.Tokens.{TokenReads}
use Rattle.line_grammar.proofs.Munching.{some_token, token_reads}
use Rattle.line_grammar.proofs.Fields.{Stops-field, Stops-miss}

-- a grammar has a line
pub example : (G : Grammar) → is_sound G ≡ true → (parts : Parts) × (bytes : List ℕ) × Spells G parts bytes
example finish h = (none, [], refl)
example anything h = (none, [], tt)
example (word text rest) h = let e = example rest h in (e.0, text ++ e.1, (e.1, refl, e.2))
example (field token rest) h =
    let k = and_parts (is_some_token token) (may_follow token rest && is_sound rest) h in
    let t = some_token token k.0 in
    let e = example rest (and_parts (may_follow token rest) (is_sound rest) k.1).1 in
    (part t.0 e.0, t.0 ++ e.1, (t.1, (e.1, refl, e.2)))
example (either left right) h = let e = example left (and_parts (is_sound left) (is_sound right) h).0 in (first e.0, e.1, e.2)

-- the end
end_none : (b : ℕ) (bytes : List ℕ) (parts : Parts) → Spells finish parts (b ∷ bytes) → ⊥
end_none b bytes parts h = grind arith

end_past : (b : ℕ) (bytes p q : List ℕ) → b ∷ bytes ≡ p ++ q → length q < suc (length bytes) → Begins (Spells finish) p → ⊥
end_past b bytes [] q e short k = omega (arith, ap length e)
end_past b bytes (x ∷ p) q e short k = end_none x (p ++ k.rest) k.value k.whole

end_reads : (bytes : List ℕ) → Reads (Spells finish) bytes (ended bytes)
unfolding ended
end_reads [] = refl
end_reads (b ∷ bytes) = record {
  front = [];
  back = b ∷ bytes;
  list = refl;
  left_is = refl;
  begins = record { value = none; rest = []; whole = refl };
  past = end_past b bytes;
  none = end_none b bytes;
}

-- a word
byte_of_word : (c : ℕ) (text : List ℕ) (rest : Grammar) → IsByte c (Spells (word text rest)) (Spells (word (c ∷ text) rest))
byte_of_word c text rest = grind arith

no_word_reads : (rest : Grammar) (bytes : List ℕ) (r : Result Parts ℕ) → Reads (Spells rest) bytes r → Reads (Spells (word [] rest)) bytes r
no_word_reads rest bytes r h = grind arith

byte_reads : (c b : ℕ) (text : List ℕ) (rest : Grammar) (bytes : List ℕ) (r : Result Parts ℕ) → b ≡ c → Reads (Spells (word text rest)) bytes r → Reads (Spells (word (c ∷ text) rest)) (b ∷ bytes) r
byte_reads c b text rest bytes (Ok parts) e h = (h.0, (let k : bytes ≡ text ++ h.0 = h.1 in (cc)), h.2)
byte_reads c b text rest bytes (Err left) e h =
    subst (λ (x : ℕ). Stops (Spells (word (c ∷ text) rest)) (x ∷ bytes) left) (sym e)
    (Stops-byte c (Spells (word text rest)) (Spells (word (c ∷ text) rest)) bytes left (byte_of_word c text rest) h)

word_step : (c b : ℕ) (text : List ℕ) (rest : Grammar) (bytes : List ℕ) (t : Bool) → is_sound rest ≡ true → (b == c) ≡ t
    → Reads (Spells (word text rest)) bytes (and_then (after text bytes) (read rest))
    → Reads (Spells (word (c ∷ text) rest)) (b ∷ bytes) (and_then (if t then after text bytes else Err (suc (length bytes))) (read rest))
word_step c b text rest bytes true sound e h = byte_reads c b text rest bytes (and_then (after text bytes) (read rest)) (eqb-true b c e) h
word_step c b text rest bytes false sound e h =
    let x = example rest sound in
    Stops-other c b (Spells (word text rest)) (Spells (word (c ∷ text) rest)) bytes x.0 (text ++ x.1) (byte_of_word c text rest) (x.1, refl, x.2) (eqb-false b c e)

word_reads : (text : List ℕ) (rest : Grammar) (bytes : List ℕ) → is_sound rest ≡ true → ((back : List ℕ) → Reads (Spells rest) back (read rest back))
    → Reads (Spells (word text rest)) bytes (and_then (after text bytes) (read rest))
unfolding after
word_reads [] rest bytes sound h = no_word_reads rest bytes (read rest bytes) (h bytes)
word_reads (c ∷ text) rest [] sound h =
    let x = example rest sound in
    Stops-short c (Spells (word text rest)) (Spells (word (c ∷ text) rest)) x.0 (text ++ x.1) (byte_of_word c text rest) (x.1, refl, x.2)
word_reads (c ∷ text) rest (b ∷ bytes) sound h = word_step c b text rest bytes (b == c) sound refl (word_reads text rest bytes sound h)

-- a token
munched : (token : Token) (rest : Grammar) (bytes front back : List ℕ) (r : Result Parts ℕ) → may_follow token rest ≡ true → TokenReads token bytes (Ok (front, back)) → Reads (Spells rest) back r → Reads (Spells (field token rest)) bytes (named (part front) r)
munched token rest bytes front back (Ok parts) follow m h = (m.is_token, (back, m.list, h))
munched token rest bytes front back (Err left) follow m h = Stops-field token rest bytes front back left follow m h

token_step : (token : Token) (rest : Grammar) (bytes : List ℕ) (r : Result (List ℕ × List ℕ) ℕ) → may_follow token rest ≡ true → is_sound rest ≡ true → TokenReads token bytes r
    → ((back : List ℕ) → Reads (Spells rest) back (read rest back)) → Reads (Spells (field token rest)) bytes (and_part r (read rest))
token_step token rest bytes (Ok (front, back)) follow sound m h = munched token rest bytes front back (read rest back) follow m (h back)
token_step token rest bytes (Err left) follow sound m h = let x = example rest sound in Stops-miss token rest bytes left x.0 x.1 x.2 m

-- a choice
pub choice_back : (left right : Grammar) (parts : Parts) (bytes : List ℕ) → Spells (either left right) parts bytes → ((u : Parts) × Spells left u bytes) ⊎ ((v : Parts) × Spells right v bytes)
choice_back left right parts bytes h = grind arith

choice_of : (left right : Grammar) → IsChoice (Spells left) (Spells right) (Spells (either left right))
choice_of left right = record {
  left = λ u bytes h. (first u, h);
  right = λ v bytes h. (second v, h);
  back = choice_back left right;
}

choice_reads : (left right : Grammar) (bytes : List ℕ) (r s : Result Parts ℕ) → Reads (Spells left) bytes r → Reads (Spells right) bytes s → Reads (Spells (either left right)) bytes (further (named first r) (named second s))
choice_reads left right bytes (Ok parts) s h k = h
choice_reads left right bytes (Err m) (Ok parts) h k = k
choice_reads left right bytes (Err m) (Err n) h k = Stops-choice (Spells left) (Spells right) (Spells (either left right)) bytes m n (choice_of left right) h k

-- every sound grammar is read
pub reads : (G : Grammar) (bytes : List ℕ) → is_sound G ≡ true → Reads (Spells G) bytes (read G bytes)
unfolding read
reads finish bytes sound = end_reads bytes
reads anything bytes sound = tt
reads (word text rest) bytes sound = word_reads text rest bytes sound (λ back. reads rest back sound)
reads (field token rest) bytes sound =
    let k = and_parts (is_some_token token) (may_follow token rest && is_sound rest) sound in
    let m = and_parts (may_follow token rest) (is_sound rest) k.1 in
    token_step token rest bytes (read_token token bytes) m.0 m.1 (token_reads token bytes k.0) (λ back. reads rest back m.1)
reads (either left right) bytes sound =
    let k = and_parts (is_sound left) (is_sound right) sound in
    choice_reads left right bytes (read left bytes) (read right bytes) (reads left bytes k.0) (reads right bytes k.1)
