-- digits from the last one on
use Rattle.std.proofs.Common.{◌≡◌, ℕ, zero, suc, ◌+◌, ◌-◌, ◌*◌, ◌/◌, ◌%◌, ◌<◌, ◌++◌, ◌∷◌, [], ◌&&◌, ◌==◌, Bool, true, List, length, drop, set, get_or, slice_index_or, refl, ap, ap₂, sym, ◌∙◌, append_assoc, arith}
use Rattle.std.proofs.lemmas.Bool.{agree_below, agree_below_at, and_parts, eqb-true}
use Rattle.line_grammar.specs.Shapes.{digits}
use Rattle.line_grammar.specs.declared.pieces.TheConstants.{PAIRS}

-- the last digit comes after the others
pub last_digit : (width n : ℕ) → 0 < width → digits width n ≡ digits (width - 1) (n / 10) ++ (48 + n % 10) ∷ []
unfolding digits
last_digit zero n h = absurd (omega arith)
last_digit (suc width) n h = let e : suc width - 1 ≡ width = omega arith in rw e refl

-- after no digits comes what is written
pub none_left : (at n : ℕ) (l : List ℕ) → at ≡ 0 → digits at n ++ drop at l ≡ l
unfolding digits
none_left zero n l e = refl
none_left (suc at) n l e = absurd (omega (arith, e))

-- where one digit is left it comes first
pub one_left : (at n : ℕ) (l : List ℕ) → at ≡ 1 → 0 < length l → digits at n ++ drop at l ≡ set l 0 (48 + n % 10)
unfolding digits
one_left zero n l e h = absurd (omega (arith, e))
one_left (suc zero) n [] e h = absurd (omega (arith, h))
one_left (suc zero) n (x ∷ l) e h = refl
one_left (suc (suc at)) n l e h = absurd (omega (arith, e))

-- two digits
pub two : (n : ℕ) → digits 2 n ≡ (48 + n / 10 % 10) ∷ (48 + n % 10) ∷ []
unfolding digits
two n = refl

-- the last two digits come after the others
pub last_two : (width n : ℕ) → 1 < width → digits width n ≡ digits (width - 2) (n / 100) ++ digits 2 (n % 100)
last_two width n h =
    let rest : width - 1 - 1 ≡ width - 2 = omega arith in
    let quotient : n / 10 / 10 ≡ n / 100 = omega arith in
    let tens : n % 100 / 10 % 10 ≡ n / 10 % 10 = omega arith in
    let ones : n % 100 % 10 ≡ n % 10 = omega arith in
    last_digit width n (omega (arith, h))
    ∙ ap (λ (l : List ℕ). l ++ (48 + n % 10) ∷ []) (last_digit (width - 1) (n / 10) (omega (arith, h)))
    ∙ append_assoc (digits (width - 1 - 1) (n / 10 / 10)) ((48 + n / 10 % 10) ∷ []) ((48 + n % 10) ∷ [])
    ∙ ap₂ (λ (w m : ℕ). digits w m ++ ((48 + n / 10 % 10) ∷ (48 + n % 10) ∷ [])) rest quotient
    ∙ ap₂ (λ (a b : ℕ). digits (width - 2) (n / 100) ++ ((48 + a) ∷ (48 + b) ∷ [])) (sym tens) (sym ones)
    ∙ ap (λ (l : List ℕ). digits (width - 2) (n / 100) ++ l) (sym (two (n % 100)))

-- the table has the two digits of each number below a hundred
is_right : ℕ → Bool
is_right n = slice_index_or PAIRS (2 * n) 0 == 48 + n / 10 % 10 && slice_index_or PAIRS (2 * n + 1) 0 == 48 + n % 10

all_right : agree_below is_right (λ _. true) 100 ≡ true
unfolding is_right
all_right = refl

pub pair_right : (n : ℕ) → n < 100 → slice_index_or PAIRS (2 * n) 0 ∷ slice_index_or PAIRS (2 * n + 1) 0 ∷ [] ≡ digits 2 n
unfolding is_right
pair_right n below =
    let both = and_parts _ _ (agree_below_at is_right (λ _. true) 100 n all_right below) in
    ap₂ (λ (a b : ℕ). a ∷ b ∷ []) (eqb-true _ _ both.0) (eqb-true _ _ both.1) ∙ sym (two n)

-- a list that is two digits has them as its first ones
pub first_two : (pair : List ℕ) (n : ℕ) → pair ≡ digits 2 n → get_or pair 0 0 ∷ get_or pair 1 0 ∷ [] ≡ digits 2 n
first_two pair n e = ap (λ (l : List ℕ). get_or l 0 0 ∷ get_or l 1 0 ∷ []) (e ∙ two n) ∙ sym (two n)
