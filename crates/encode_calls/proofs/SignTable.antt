-- the signs of dots and of words
use Rattle.std.proofs.Common.{◌≡◌, ℕ, ◌+◌, ◌*◌, ◌<◌, ◌≤◌, Bool, false, true, List, [], ◌∷◌, ◌++◌, length, get_or, map, flat_map, append_assoc, append-nil, slice_index_or, take, drop, refl, sym, ap, ◌∙◌, arith}
use Rattle.std.specs.Str.{bytes_eq}
use Rattle.std.proofs.lemmas.Slice.Eq.{bytes_eq-Decides}
use Rattle.std.proofs.lemmas.Bool.{agree_below, agree_below_at}
use Rattle.std.proofs.lemmas.List.{map-append, length-take-le, take-append-drop, take-take, take_more}
use Rattle.std.proofs.lemmas.List.Concat.{flat_map-append}
use Rattle.std.proofs.Math.Seq.{take-append-add}
use Rattle.ten_unit.specs.Word.{word_of}
use Rattle.phasing.specs.Sent.{dots, dot_count, sent}
use Rattle.input_lines.specs.ReceiverLine.{sign_of}
use Rattle.encode_calls.specs.inside.Fronts.{front_symbols, front_signs}
use Rattle.encode_calls.specs.declared.signs.TheConstants.{DOTS, LONG_DOTS, FRONT, LONG_FRONT, WORDS}

-- the signs of both dot patterns
pub short_dots : DOTS ≡ map sign_of (dots 20)
unfolding dots
short_dots = refl

pub long_dots : LONG_DOTS ≡ map sign_of (dots 200)
unfolding dots
long_dots = refl

-- the same with the words of the phasing symbols before the first character
pub short_front : FRONT ≡ front_signs false
unfolding dots sent word_of
short_front = refl

pub long_front : LONG_FRONT ≡ front_signs true
unfolding dots sent word_of
long_front = refl

-- each row of the table has the signs of its symbol's word
is_right : ℕ → Bool
is_right v = bytes_eq (take 10 (slice_index_or WORDS v [])) (map sign_of (word_of v))

all_right : agree_below is_right (λ _. true) 128 ≡ true
unfolding is_right word_of
all_right = refl

pub word_right : (v : ℕ) → v < 128 → take 10 (slice_index_or WORDS v []) ≡ map sign_of (word_of v)
unfolding is_right
word_right v below =
    (bytes_eq-Decides (take 10 (slice_index_or WORDS v [])) (map sign_of (word_of v))).0 (agree_below_at is_right (λ _. true) 128 v all_right below)

-- the first ten of a row that is written over what comes from a place on
pub overwritten : (words row new : List ℕ) (a : ℕ) → a ≤ length words → take (a + 16) new ≡ take a words ++ row → take (a + 10) new ≡ take a words ++ take 10 row
overwritten words row new a inside put =
    sym (take-take (a + 10) (a + 16) new (omega arith))
    ∙ ap (take (a + 10)) put
    ∙ ap (λ (n : ℕ). take (n + 10) (take a words ++ row)) (sym (length-take-le a words inside))
    ∙ take-append-add (take a words) row 10

-- the signs of the words of one more symbol
pub one_more : (symbols : List ℕ) (n : ℕ) → n < length symbols → map sign_of (flat_map word_of (take n symbols)) ++ map sign_of (word_of (get_or symbols n 0)) ≡ map sign_of (flat_map word_of (take (n + 1) symbols))
one_more symbols n inside =
    let v = get_or symbols n 0 in
    sym (map-append sign_of (flat_map word_of (take n symbols)) (word_of v))
    ∙ ap (λ l. map sign_of (flat_map word_of (take n symbols) ++ l)) (sym (append-nil (word_of v)))
    ∙ ap (map sign_of) (sym (flat_map-append word_of (take n symbols) (v ∷ [])))
    ∙ ap (λ (l : List ℕ). map sign_of (flat_map word_of l)) (sym (take_more symbols n 0 inside))

-- the signs of a transmission: those of its dots, and those of its words
pub signs_of_sent : (slots : List ℕ) (long : Bool) → map sign_of (dots (dot_count long)) ++ map sign_of (flat_map word_of slots) ≡ map sign_of (sent slots long)
unfolding sent
signs_of_sent slots long = sym (map-append sign_of (dots (dot_count long)) (flat_map word_of slots))

-- the same where the front of the transmission was written before
pub signs_of_rest : (slots : List ℕ) (long : Bool) → take 12 slots ≡ front_symbols → front_signs long ++ map sign_of (flat_map word_of (drop 12 slots)) ≡ map sign_of (sent slots long)
signs_of_rest slots long front =
    let rest = drop 12 slots in
    ap (λ (l : List ℕ). l ++ map sign_of (flat_map word_of rest)) (sym (signs_of_sent front_symbols long))
    ∙ append_assoc (map sign_of (dots (dot_count long))) (map sign_of (flat_map word_of front_symbols)) (map sign_of (flat_map word_of rest))
    ∙ ap (λ (l : List ℕ). map sign_of (dots (dot_count long)) ++ l) (
    sym (map-append sign_of (flat_map word_of front_symbols) (flat_map word_of rest))
    ∙ ap (map sign_of) (sym (flat_map-append word_of front_symbols rest))
    ∙ ap (λ (l : List ℕ). map sign_of (flat_map word_of l)) (ap (λ (l : List ℕ). l ++ rest) (sym front) ∙ take-append-drop 12 slots))
    ∙ signs_of_sent slots long

-- the signs of one more slot, where its word was written after those before it
pub next_written : (slots words new : List ℕ) (n at v : ℕ) → at ≡ 10 * n → take at words ≡ map sign_of (flat_map word_of (take n slots)) → n < length slots → v ≡ get_or slots n 0 → take (at + 10) new ≡ take at words ++ map sign_of (word_of v) → take (10 * (n + 1)) new ≡ map sign_of (flat_map word_of (take (n + 1) slots))
next_written slots words new n at v place was inside is put =
    let next : 10 * (n + 1) ≡ at + 10 = omega (arith, place) in
    ap (λ (m : ℕ). take m new) next
    ∙ put
    ∙ ap (λ (l : List ℕ). l ++ map sign_of (word_of v)) was
    ∙ ap (λ (v : ℕ). map sign_of (flat_map word_of (take n slots)) ++ map sign_of (word_of v)) is
    ∙ one_more slots n inside
