-- The table is right: each row below 128 is the symbol whose word has the row's number, and each symbol is found in its
-- word's row.
use Rattle.std.proofs.Common.{◌≡◌, ℕ, zero, suc, ◌+◌, ◌<◌, ◌≤◌, Bool, true, ◌&&◌, ◌||◌, eqb, ltb, ◌==◌, List, [], ◌∷◌, length, slice_index, get_or, refl, ap, sym, ◌∙◌, subst, inl, inr, arith}
use Rattle.std.proofs.lemmas.Bool.{agree_below, agree_below_at, eqb-true, ltb-true, and_parts, or_cases}
use Rattle.std.specs.Bool.{Decides}
use Rattle.std.proofs.lemmas.Bool.Decides.{same_from_decides, Decides-eqb, Decides-like}
use Rattle.ten_unit.specs.declared.character.Element.{Element}
use Rattle.ten_unit.specs.declared.table.TheConstants.{SYMBOLS}
use Rattle.ten_unit.specs.Word.{word_of, is_word, elements_eq}
use Rattle.ten_unit.specs.inside.Number.{number_of}
use Rattle.ten_unit.specs.inside.Symbol.{IsSymbol}
use Rattle.ten_unit.proofs.Reading.{elements_same, elements_own, length-word}
use Rattle.ten_unit.proofs.Numbers.{same_number}

-- a row holds 128, or the symbol whose word has the row's number
is_right : ℕ → ℕ → Bool
is_right symbol row = eqb symbol 128 || (ltb symbol 128 && eqb (number_of (word_of symbol)) row)

are_right : List ℕ → ℕ → Bool
are_right [] row = true
are_right (symbol ∷ rest) row = is_right symbol row && are_right rest (suc row)

right_at : (symbols : List ℕ) (row : ℕ) → are_right symbols row ≡ true → (k : ℕ) → k < length symbols → is_right (get_or symbols k 0) (k + row) ≡ true
unfolding are_right
right_at [] row right k inside = absurd (omega arith)
right_at (symbol ∷ rest) row right zero inside =
    let place : row ≡ zero + row = omega arith in
    ap (is_right symbol) (sym place) ∙ (and_parts (is_right symbol row) (are_right rest (suc row)) right).0
right_at (symbol ∷ rest) row right (suc k) inside =
    let place : k + suc row ≡ suc k + row = omega arith in
    ap (is_right (get_or rest k 0)) (sym place)
    ∙ right_at rest (suc row) (and_parts (is_right symbol row) (are_right rest (suc row)) right).1 k (omega arith)

all_right : are_right SYMBOLS 0 ≡ true
unfolding word_of is_right are_right
all_right = refl

row_right : (n : ℕ) → n < 1024 → is_right (slice_index SYMBOLS n) n ≡ true
row_right n inside =
    let place : n + 0 ≡ n = omega arith in
    ap (is_right (slice_index SYMBOLS n)) (sym place) ∙ right_at SYMBOLS 0 all_right n inside

-- the symbol of a word's row
is_found : ℕ → Bool
is_found v = ltb (number_of (word_of v)) 1024 && eqb (slice_index SYMBOLS (number_of (word_of v))) v

all_found : agree_below is_found (λ _. true) 128 ≡ true
unfolding word_of is_found
all_found = refl

found : (v : ℕ) → v < 128 → (number_of (word_of v) < 1024) × (slice_index SYMBOLS (number_of (word_of v)) ≡ v)
unfolding is_found
found v below =
    let both = and_parts (ltb (number_of (word_of v)) 1024) (eqb (slice_index SYMBOLS (number_of (word_of v))) v) (agree_below_at is_found (λ _. true) 128 v all_found below) in
    (ltb-true _ _ both.0, eqb-true _ _ both.1)

-- the elements of a word decide which word it is
Decides-is_word : (w : List Element) (v : ℕ) → Decides (is_word w v) (w ≡ word_of v)
unfolding is_word
Decides-is_word w v = (elements_same w (word_of v), λ e. subst (λ (l : List Element). elements_eq l (word_of v) ≡ true) (sym e) (elements_own (word_of v)))

-- what a row holds is the symbol of the elements with the row's number
row_symbol : (w : List Element) (s : ℕ) → length w ≡ 10 → number_of w < 1024 → is_right s (number_of w) ≡ true → ((v : ℕ) → v < 128 → w ≡ word_of v → s ≡ v) → IsSymbol w s
unfolding is_right
row_symbol w s long small right others =
    elim (or_cases (eqb s 128) (ltb s 128 && eqb (number_of (word_of s)) (number_of w)) right) [
      | inl none ↦
          let at : s ≡ 128 = eqb-true _ _ none in
          record {
            within = omega arith;
            shown =
                λ v below. same_from_decides (is_word w v) (v == s) (Decides-is_word w v)
                (Decides-like (v == s) (λ e. absurd (omega arith)) (λ is. sym (others v below is)) (Decides-eqb v s));
          }
      | inr one ↦
          let both = and_parts (ltb s 128) (eqb (number_of (word_of s)) (number_of w)) one in
          let below_s : s < 128 = ltb-true _ _ both.0 in
          let same : word_of s ≡ w = same_number (word_of s) w (length-word s ∙ sym long) (eqb-true _ _ both.1) small in
          record {
            within = omega arith;
            shown =
                λ v below. same_from_decides (is_word w v) (v == s) (Decides-is_word w v)
                (Decides-like (v == s) (λ e. sym same ∙ ap word_of (sym e)) (λ is. sym (others v below is)) (Decides-eqb v s));
          }
    ]

pub symbol_row : (w : List Element) (n : ℕ) → length w ≡ 10 → number_of w ≡ n → n < 1024 → IsSymbol w (slice_index SYMBOLS n)
symbol_row w n long number small =
    row_symbol w (slice_index SYMBOLS n) long (omega arith) (ap (is_right (slice_index SYMBOLS n)) number ∙ row_right n small)
    (λ v below is.
    let row : n ≡ number_of (word_of v) = sym number ∙ ap number_of is in
    ap (slice_index SYMBOLS) row ∙ (found v below).1)

-- where an element is lost, there is no word
pub no_symbol : (w : List Element) (n : ℕ) → number_of w ≡ n → 1024 ≤ n → IsSymbol w 128
no_symbol w n number large = record {
  within = omega arith;
  shown =
      λ v below. same_from_decides (is_word w v) (v == 128) (Decides-is_word w v)
      (Decides-like (v == 128) (λ e. absurd (omega arith)) (λ is. absurd (omega (arith, (found v below).0, ap number_of is))) (Decides-eqb v 128));
}
