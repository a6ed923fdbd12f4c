-- the steps of the readers in code
use Rattle.std.proofs.Common.{◌≡◌, ℕ, suc, ◌+◌, ◌<◌, ◌≤◌, ◌==◌, true, List, [], ◌∷◌, ◌++◌, length, take, drop, slice_index_or, Ok, Err, refl, sym, ◌∙◌, ap}
use Rattle.std.specs.List.{prefix_len}
use Rattle.std.specs.Str.{bytes_eq}
use Rattle.std.proofs.lemmas.Bool.{eq-eqb, ne_eqb, cond-true, cond-false}
use Rattle.std.proofs.lemmas.List.{drop_more, drop_all, nil_from_length, take-append-drop}
use Rattle.std.proofs.lemmas.Slice.Eq.{bytes_eq-Decides}
use Rattle.line_grammar.specs.Grammar.{none}
use Rattle.line_grammar.specs.Tokens.{run, is_one_of}
use Rattle.line_grammar.specs.inside.Reading.{ended, after, read_token}

pub after_end : (text rest : List ℕ) (i : ℕ) → i < length text → length rest ≡ 0 → after (drop i text) rest ≡ Err 0
unfolding after
after_end text rest i inside e =
    ap (λ (t : List ℕ). after t rest) (drop_more text i 0 inside) ∙ ap (λ (r : List ℕ). after (slice_index_or text i 0 ∷ drop (i + 1) text) r) (nil_from_length rest e)

pub after_other : (text rest back : List ℕ) (i b : ℕ) → i < length text → rest ≡ b ∷ back → (b ≡ slice_index_or text i 0 → ⊥) → after (drop i text) rest ≡ Err (length rest)
unfolding after
after_other text rest back i b inside e differs =
    let c = slice_index_or text i 0 in
    ap (λ (t : List ℕ). after t rest) (drop_more text i 0 inside)
    ∙ ap (λ (r : List ℕ). after (c ∷ drop (i + 1) text) r) e
    ∙ cond-false (b == c) (after (drop (i + 1) text) back) (Err (suc (length back))) (ne_eqb b c differs)
    ∙ ap (λ (r : List ℕ). Err (length r)) (sym e)

pub after_more : (text rest back : List ℕ) (i b : ℕ) → i < length text → rest ≡ b ∷ back → b ≡ slice_index_or text i 0 → after (drop i text) rest ≡ after (drop (i + 1) text) back
unfolding after
after_more text rest back i b inside e same =
    let c = slice_index_or text i 0 in
    ap (λ (t : List ℕ). after t rest) (drop_more text i 0 inside)
    ∙ ap (λ (r : List ℕ). after (c ∷ drop (i + 1) text) r) e
    ∙ cond-true (b == c) (after (drop (i + 1) text) back) (Err (suc (length back))) (eq-eqb b c same)

pub after_done : (text rest : List ℕ) (i : ℕ) → length text ≤ i → after (drop i text) rest ≡ Ok rest
unfolding after
after_done text rest i past = ap (λ (t : List ℕ). after t rest) (drop_all i text past)

-- a word that is at the front as a whole
after_whole : (text rest : List ℕ) → after text (text ++ rest) ≡ Ok rest
unfolding after
after_whole [] rest = refl
after_whole (c ∷ text) rest = cond-true (c == c) (after text (text ++ rest)) (Err (suc (length (text ++ rest)))) (eq-eqb c c refl) ∙ after_whole text rest

pub after_prefix : (text bytes rest : List ℕ) → bytes_eq (take (length text) bytes) text ≡ true → rest ≡ drop (length text) bytes → after text bytes ≡ Ok rest
after_prefix text bytes rest same is =
    let back = drop (length text) bytes in
    ap (after text) (sym (take-append-drop (length text) bytes))
    ∙ ap (λ (l : List ℕ). after text (l ++ back)) ((bytes_eq-Decides (take (length text) bytes) text).0 same)
    ∙ after_whole text back
    ∙ ap Ok (sym is)

pub ended_here : (bytes : List ℕ) → length bytes ≡ 0 → ended bytes ≡ Ok none
unfolding ended
ended_here bytes e = ap ended (nil_from_length bytes e)

pub not_ended : (bytes : List ℕ) → (length bytes ≡ 0 → ⊥) → ended bytes ≡ Err (length bytes)
unfolding ended
not_ended [] h = absurd (h refl)
not_ended (b ∷ bytes) h = refl

pub run_missed : (signs bytes : List ℕ) (n : ℕ) → n ≡ prefix_len (is_one_of signs) bytes → n ≡ 0 → read_token (run signs) bytes ≡ Err (length bytes)
unfolding read_token
run_missed signs bytes n e zero =
    let k = prefix_len (is_one_of signs) bytes in
    cond-true (k == 0) (Err (length bytes)) (Ok (take k bytes, drop k bytes)) (eq-eqb k 0 (sym e ∙ zero))

pub run_taken : (signs bytes front back : List ℕ) (n : ℕ) → n ≡ prefix_len (is_one_of signs) bytes → (n ≡ 0 → ⊥) → front ≡ take n bytes → back ≡ drop n bytes → read_token (run signs) bytes ≡ Ok (front, back)
unfolding read_token
run_taken signs bytes front back n e some f g =
    let k = prefix_len (is_one_of signs) bytes in
    cond-false (k == 0) (Err (length bytes)) (Ok (take k bytes, drop k bytes)) (ne_eqb k 0 (λ z. some (e ∙ z)))
    ∙ ap (λ (m : ℕ). Ok (take m bytes, drop m bytes)) (sym e)
    ∙ ap (λ (l : List ℕ). Ok (l, drop n bytes)) (sym f)
    ∙ ap (λ (l : List ℕ). Ok (front, l)) (sym g)
