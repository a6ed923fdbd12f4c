-- the steps of the reader of numerals in code
use Rattle.std.proofs.Common.{◌≡◌, ℕ, suc, ◌+◌, ◌-◌, ◌*◌, ◌/◌, ◌%◌, ◌^◌, ◌<◌, ◌≤◌, true, false, ◌&&◌, nat_le, List, [], ◌∷◌, ◌++◌, length, Result, Ok, Err, refl, sym, ◌∙◌, ap, subst, append_assoc, append-nil, arith}
use Rattle.std.proofs.lemmas.Bool.{and_parts, leb-true, cond-true, cond-false}
use Rattle.std.proofs.lemmas.List.{nil_from_length}
use Rattle.std.proofs.Math.Nat.{div-eq_of_lt}
use Rattle.line_grammar.specs.Shapes.{fixed_number, digits, is_within}
use Rattle.line_grammar.specs.Tokens.{is_digit}
use Rattle.line_grammar.specs.inside.Reading.{behind, fits, read_numeral, read_shape}
use Rattle.line_grammar.specs.inside.Soundness.{are_ranges}
use Rattle.line_grammar.proofs.ShapesNumerals.{are_all_of, some_numeral, within_below, within_fits, fits_below, fits_within, power_order}

-- digits that were read so far
pub record Passed (width : ℕ) (ranges : List (ℕ × ℕ)) (bytes : List ℕ) (more n : ℕ) (rest : List ℕ) : Type 0 where
  pub done : ℕ
  pub count : done + more ≡ width
  pub fit : fits more ranges n ≡ true
  pub same : read_shape (fixed_number width ranges) bytes ≡ behind (digits done n) (read_numeral more ranges n rest)

behind_nothing : (r : Result (List ℕ × List ℕ) ℕ) → r ≡ behind [] r
behind_nothing r = grind arith

behind_both : (bytes : List ℕ) (b : ℕ) (r : Result (List ℕ × List ℕ) ℕ) → behind bytes (behind (b ∷ []) r) ≡ behind (bytes ++ (b ∷ [])) r
behind_both bytes b (Ok (front, back)) = ap (λ (l : List ℕ). Ok (l, back)) (sym (append_assoc bytes (b ∷ []) front))
behind_both bytes b (Err left) = refl

pub passed_none : (width : ℕ) (ranges : List (ℕ × ℕ)) (bytes : List ℕ) → are_ranges width ranges ≡ true → Passed width ranges bytes width 0 bytes
unfolding digits read_shape
passed_none width ranges bytes h =
    let n = some_numeral width ranges h in
    let none : n.0 / 10 ^ width ≡ 0 = div-eq_of_lt (within_below width ranges n.0 (are_all_of width ranges h) n.1) in
    record {
      done = 0;
      count = (omega arith);
      fit = subst (λ (m : ℕ). fits width ranges m ≡ true) none (within_fits width ranges n.0 n.1);
      same = behind_nothing (read_numeral width ranges 0 bytes);
    }

pub digits_push : (done n b : ℕ) → is_digit b ≡ true → digits done n ++ (b ∷ []) ≡ digits (suc done) (10 * n + (b - 48))
unfolding digits
digits_push done n b h =
    let k = and_parts (nat_le 48 b) (nat_le b 57) h in
    let low = leb-true 48 b k.0 in
    let high = leb-true b 57 k.1 in
    let next = 10 * n + (b - 48) in
    let front : n ≡ next / 10 = omega (arith, low, high) in
    let last : b ≡ 48 + next % 10 = omega (arith, low, high) in
    ap (λ (m : ℕ). digits done m ++ (b ∷ [])) front ∙ ap (λ (c : ℕ). digits done (next / 10) ++ (c ∷ [])) last

pub numeral_more : (more : ℕ) (ranges : List (ℕ × ℕ)) (n b next : ℕ) (back : List ℕ) → next ≡ 10 * n + (b - 48) → (is_digit b && fits more ranges next) ≡ true
    → read_numeral (suc more) ranges n (b ∷ back) ≡ behind (b ∷ []) (read_numeral more ranges next back)
unfolding read_numeral
numeral_more more ranges n b next back f h =
    let on = 10 * n + (b - 48) in
    cond-true (is_digit b && fits more ranges on) (behind (b ∷ []) (read_numeral more ranges on back)) (Err (suc (length back))) (subst (λ (m : ℕ). (is_digit b && fits more ranges m) ≡ true) f h)
    ∙ ap (λ (m : ℕ). behind (b ∷ []) (read_numeral more ranges m back)) (sym f)

pub passed_more : (width before more : ℕ) (ranges : List (ℕ × ℕ)) (bytes rest back : List ℕ) (n b next : ℕ) → Passed width ranges bytes before n rest → before ≡ suc more → rest ≡ b ∷ back
    → next ≡ 10 * n + (b - 48) → (is_digit b && fits more ranges next) ≡ true → Passed width ranges bytes more next back
passed_more width before more ranges bytes rest back n b next p down e f h =
    let k = and_parts (is_digit b) (fits more ranges next) h in
    let r = read_numeral more ranges next back in
    record {
      done = suc p.done;
      count = (omega (arith, p.count, down));
      fit = k.1;
      same =
          p.same
          ∙ ap (λ (m : ℕ). behind (digits p.done n) (read_numeral m ranges n rest)) down
          ∙ ap (λ (l : List ℕ). behind (digits p.done n) (read_numeral (suc more) ranges n l)) e
          ∙ ap (λ (x : Result (List ℕ × List ℕ) ℕ). behind (digits p.done n) x) (numeral_more more ranges n b next back f h)
          ∙ behind_both (digits p.done n) b r
          ∙ ap (λ (l : List ℕ). behind l r) (digits_push p.done n b k.0)
          ∙ ap (λ (m : ℕ). behind (digits (suc p.done) m) r) (sym f);
    }

pub passed_end : (width before more : ℕ) (ranges : List (ℕ × ℕ)) (bytes rest : List ℕ) (n : ℕ) → Passed width ranges bytes before n rest → before ≡ suc more → length rest ≡ 0
    → read_shape (fixed_number width ranges) bytes ≡ Err 0
unfolding read_numeral
passed_end width before more ranges bytes rest n p down e =
    p.same
    ∙ ap (λ (m : ℕ). behind (digits p.done n) (read_numeral m ranges n rest)) down
    ∙ ap (λ (l : List ℕ). behind (digits p.done n) (read_numeral (suc more) ranges n l)) (nil_from_length rest e)

pub passed_stop : (width before more : ℕ) (ranges : List (ℕ × ℕ)) (bytes rest back : List ℕ) (n b : ℕ) → Passed width ranges bytes before n rest → before ≡ suc more → rest ≡ b ∷ back
    → (is_digit b && fits more ranges (10 * n + (b - 48))) ≡ false → read_shape (fixed_number width ranges) bytes ≡ Err (length rest)
unfolding read_numeral
passed_stop width before more ranges bytes rest back n b p down e h =
    let on = 10 * n + (b - 48) in
    p.same
    ∙ ap (λ (m : ℕ). behind (digits p.done n) (read_numeral m ranges n rest)) down
    ∙ ap (λ (l : List ℕ). behind (digits p.done n) (read_numeral (suc more) ranges n l)) e
    ∙ ap (λ (x : Result (List ℕ × List ℕ) ℕ). behind (digits p.done n) x)
    (cond-false (is_digit b && fits more ranges on) (behind (b ∷ []) (read_numeral more ranges on back)) (Err (suc (length back))) h)
    ∙ ap (λ (l : List ℕ). Err (length l)) (sym e)

pub passed_all : (width more : ℕ) (ranges : List (ℕ × ℕ)) (bytes rest : List ℕ) (n : ℕ) → Passed width ranges bytes more n rest → more ≡ 0
    → (is_within ranges n ≡ true) × (read_shape (fixed_number width ranges) bytes ≡ Ok (digits width n, rest))
unfolding read_numeral
passed_all width more ranges bytes rest n p none =
    let whole : p.done ≡ width = omega (arith, p.count, none) in (
      fits_within ranges n (subst (λ (m : ℕ). fits m ranges n ≡ true) none p.fit),
      p.same
          ∙ ap (λ (m : ℕ). behind (digits p.done n) (read_numeral m ranges n rest)) none
          ∙ ap (λ (l : List ℕ). Ok (l, rest)) (append-nil (digits p.done n))
          ∙ ap (λ (m : ℕ). Ok (digits m n, rest)) whole,
    )

-- the numbers on the way are small
pub passed_small : (width : ℕ) (ranges : List (ℕ × ℕ)) (bytes : List ℕ) (more n : ℕ) (rest : List ℕ) → Passed width ranges bytes more n rest → are_ranges width ranges ≡ true → width ≤ 10 → n < 2 ^ 60
passed_small width ranges bytes more n rest p h few =
    let below = fits_below width more ranges n h p.fit in
    let most = power_order width 10 few in
    omega (arith, below, most)

pub one_less : (n : ℕ) → 0 < n → n ≡ suc (n - 1)
one_less n h = omega arith
