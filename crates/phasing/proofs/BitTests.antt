-- words of bits as tests of 64 places: from the tests of some words those of others
use Rattle.std.proofs.Common.{◌≡◌, ℕ, zero, suc, ◌+◌, ◌-◌, ◌/◌, ◌%◌, ◌^◌, ◌<◌, ◌==◌, min, max, Bool, true, false, not, ◌&&◌, ◌||◌, cond, bit_and, bit_or, [], ◌∷◌, get_or, inl, inr, refl, arith, ap, sym, lit<, ◌∙◌}
use Rattle.std.specs.Int.{bit_at, bit_not, trailing_zeros, w64}
use Rattle.std.proofs.lemmas.Bool.{cases_lt}
use Rattle.std.proofs.lemmas.Nat.{and_le_l, or_lt, shr_le}
use Rattle.std.proofs.lemmas.Nat.Bits.{bit_at-zero, bit_at_and, bit_at_or, bit_at_not, bit_at_above, bit_at_ones, bit_at-suc, bit_at_lowest, bit_at-trailing_zeros}
use Rattle.ten_unit.specs.inside.Marks.{IsMarks}
use Rattle.ten_unit.proofs.PublicLaws.{bit_at-shr}
use Rattle.phasing.proofs.Bits.{moved_up, moved_up-low, moved_up-high}

bit_and_test : (x y : Bool) → min (cond x 1 0) (cond y 1 0) ≡ cond (x && y) 1 0
bit_and_test true true = refl
bit_and_test true false = refl
bit_and_test false true = refl
bit_and_test false false = refl

bit_or_test : (x y : Bool) → max (cond x 1 0) (cond y 1 0) ≡ cond (x || y) 1 0
bit_or_test true true = refl
bit_or_test true false = refl
bit_or_test false true = refl
bit_or_test false false = refl

bit_not_test : (x : Bool) → 1 - cond x 1 0 ≡ cond (not x) 1 0
bit_not_test true = refl
bit_not_test false = refl

low_alone : (x : Bool) → max (cond x 1 0) 0 ≡ cond x 1 0
low_alone true = refl
low_alone false = refl

-- every place
pub all_marks : (base : ℕ) → IsMarks (2 ^ 64 - 1) base (λ _. true)
all_marks base = record {
  fits = lit< tt;
  each = λ i below. bit_at_ones 64 i below;
}

-- no place
pub no_marks : (base : ℕ) (f : ℕ → Bool) → ((i : ℕ) → i < 64 → f (base + i) ≡ false) → IsMarks 0 base f
no_marks base f none = record {
  fits = lit< tt;
  each = λ i below. bit_at-zero i ∙ ap (λ (b : Bool). cond b 1 0) (sym (none i below));
}

-- both tests hold
pub and_marks : (v w base : ℕ) (f g : ℕ → Bool) → IsMarks v base f → IsMarks w base g → IsMarks (bit_and v w) base (λ p. f p && g p)
and_marks v w base f g a b = record {
  fits = let low : v < 2 ^ 64 = a.fits in omega (arith, and_le_l v w);
  each =
      λ i below.
      bit_at_and v w i ∙ ap (λ (n : ℕ). min n (bit_at w i)) (a.each i below)
      ∙ ap (λ (n : ℕ). min (cond (f (base + i)) 1 0) n) (b.each i below)
      ∙ bit_and_test (f (base + i)) (g (base + i));
}

-- one of the tests holds
pub or_marks : (v w base : ℕ) (f g : ℕ → Bool) → IsMarks v base f → IsMarks w base g → IsMarks (bit_or v w) base (λ p. f p || g p)
or_marks v w base f g a b = record {
  fits = or_lt 64 v w a.fits b.fits;
  each =
      λ i below.
      bit_at_or v w i ∙ ap (λ (n : ℕ). max n (bit_at w i)) (a.each i below)
      ∙ ap (λ (n : ℕ). max (cond (f (base + i)) 1 0) n) (b.each i below)
      ∙ bit_or_test (f (base + i)) (g (base + i));
}

-- the test does not hold
pub not_marks : (w base : ℕ) (f : ℕ → Bool) → IsMarks w base f → IsMarks (bit_not w64 w) base (λ p. not (f p))
not_marks w base f a = record {
  fits = omega arith;
  each = λ i below. bit_at_not w64 w i a.fits below ∙ ap (λ (n : ℕ). 1 - n) (a.each i below) ∙ bit_not_test (f (base + i));
}

-- an equal test
pub same_marks : (w base : ℕ) (f g : ℕ → Bool) → ((p : ℕ) → f p ≡ g p) → IsMarks w base f → IsMarks w base g
same_marks w base f g same a = record {
  fits = a.fits;
  each = λ i below. a.each i below ∙ ap (λ (b : Bool). cond b 1 0) (same (base + i));
}

-- a test that is equal at these places
pub same_marks_from : (w base : ℕ) (f g : ℕ → Bool) → ((i : ℕ) → f (base + i) ≡ g (base + i)) → IsMarks w base f → IsMarks w base g
same_marks_from w base f g same a = record {
  fits = a.fits;
  each = λ i below. a.each i below ∙ ap (λ (b : Bool). cond b 1 0) (same i);
}

-- the same word, by another test from another place on
pub moved_marks : (w base shift : ℕ) (f : ℕ → Bool) → IsMarks w (base + shift) f → IsMarks w base (λ p. f (p + shift))
moved_marks w base shift f a = record {
  fits = a.fits;
  each =
      λ i below.
      let place : base + shift + i ≡ base + i + shift = omega arith in
      a.each i below ∙ ap (λ (p : ℕ). cond (f p) 1 0) place;
}

-- the places that begin later, in two words
pub shifted_marks : (low high shift base : ℕ) (f : ℕ → Bool) → shift < 64 → IsMarks low base f → IsMarks high (base + 64) f → IsMarks (bit_or (low / 2 ^ shift) (moved_up high shift)) (base + shift) f
shifted_marks low high shift base f small a b = record {
  fits = or_lt 64 (low / 2 ^ shift) (moved_up high shift) (let fits : low < 2 ^ 64 = a.fits in omega (arith, shr_le low shift)) (omega arith);
  each =
      λ i below.
      elim (cases_lt (shift + i) 64) [
        | inl here ↦
            let place : base + (shift + i) ≡ base + shift + i = omega arith in
            bit_at_or (low / 2 ^ shift) (moved_up high shift) i
            ∙ ap (λ (n : ℕ). max (bit_at (low / 2 ^ shift) i) n) (moved_up-low high shift i here)
            ∙ ap (λ (n : ℕ). max n 0) (bit_at-shr low shift i ∙ a.each (shift + i) here)
            ∙ low_alone (f (base + (shift + i)))
            ∙ ap (λ (p : ℕ). cond (f p) 1 0) place
        | inr there ↦
            let place : base + 64 + (shift + i - 64) ≡ base + shift + i = omega arith in
            bit_at_or (low / 2 ^ shift) (moved_up high shift) i
            ∙ ap (λ (n : ℕ). max n (bit_at (moved_up high shift) i)) (bit_at-shr low shift i ∙ bit_at_above low 64 (shift + i) a.fits there)
            ∙ ap (λ (n : ℕ). max 0 n) (moved_up-high high shift i small below there ∙ b.each (shift + i - 64) (omega arith))
            ∙ bit_or_test false (f (base + 64 + (shift + i - 64)))
            ∙ ap (λ (p : ℕ). cond (f p) 1 0) place
      ];
}

is_true : (x : Bool) → ◌≡◌ {A = ℕ} (cond x 1 0) 1 → x ≡ true
is_true true h = refl
is_true false h = absurd (omega arith)

is_false : (x : Bool) → ◌≡◌ {A = ℕ} (cond x 1 0) 0 → x ≡ false
is_false true h = absurd (omega arith)
is_false false h = refl

-- a word without a bit: nowhere
pub none_marked : (w base : ℕ) (f : ℕ → Bool) → IsMarks w base f → w ≡ 0 → (i : ℕ) → i < 64 → f (base + i) ≡ false
none_marked w base f a empty i below =
    is_false (f (base + i)) (sym (a.each i below) ∙ ap (λ (n : ℕ). bit_at n i) empty ∙ bit_at-zero i)

-- the lowest bit: the first place
pub record IsFirst (f : ℕ → Bool) (base i : ℕ) : Type 0 where
  pub within : i < 64
  pub holds : f (base + i) ≡ true
  pub none : (k : ℕ) → k < i → f (base + k) ≡ false

pub first_marked : (w base : ℕ) (f : ℕ → Bool) → IsMarks w base f → 0 < w → IsFirst f base (trailing_zeros w64 w)
first_marked w base f a some =
    let first = bit_at-trailing_zeros w64 w some a.fits in
    let within : trailing_zeros w64 w < 64 = first.0 in
    record {
      within = within;
      holds = is_true (f (base + trailing_zeros w64 w)) (sym (a.each (trailing_zeros w64 w) within) ∙ first.1);
      none = λ k below. is_false (f (base + k)) (sym (a.each k (omega arith)) ∙ first.2 k below);
    }

-- the last bit alone: the first place
test_of : (b : Bool) (n : ℕ) → n ≡ cond b 1 0 → (n == 1) ≡ b
test_of true n h = ap (λ (k : ℕ). k == 1) h
test_of false n h = ap (λ (k : ℕ). k == 1) h

pub first_bit : (w base : ℕ) (f : ℕ → Bool) → IsMarks w base f → (w % 2 == 1) ≡ f base
first_bit w base f a =
    let place : base + 0 ≡ base = omega arith in
    test_of (f base) (w % 2) (sym (bit_at_lowest w) ∙ a.each 0 (lit< tt) ∙ ap (λ (p : ℕ). cond (f p) 1 0) place)

-- the other bits: the places after it
later_bit : (w k : ℕ) → bit_at w (1 + k) ≡ bit_at (w / 2) k
later_bit w k =
    let index : 1 + k ≡ suc k = omega arith in
    ap (bit_at w) index ∙ bit_at-suc w k

pub none_later : (w base : ℕ) (f : ℕ → Bool) → IsMarks w base f → w / 2 ≡ 0 → (i : ℕ) → 1 + i < 64 → f (base + (1 + i)) ≡ false
none_later w base f a empty i below =
    is_false (f (base + (1 + i))) (sym (a.each (1 + i) below) ∙ later_bit w i ∙ ap (λ (n : ℕ). bit_at n i) empty ∙ bit_at-zero i)

pub record IsLater (f : ℕ → Bool) (base i : ℕ) : Type 0 where
  pub within : 1 + i < 64
  pub holds : f (base + (1 + i)) ≡ true
  pub none : (k : ℕ) → k < i → f (base + (1 + k)) ≡ false

pub first_later : (w base : ℕ) (f : ℕ → Bool) → IsMarks w base f → 0 < w / 2 → IsLater f base (trailing_zeros w64 (w / 2))
first_later w base f a some =
    let fits : w < 2 ^ 64 = a.fits in
    let i = trailing_zeros w64 (w / 2) in
    let first = bit_at-trailing_zeros w64 (w / 2) some (omega (arith, fits)) in
    let at : bit_at w (1 + i) ≡ 1 = later_bit w i ∙ first.1 in
    let within : 1 + i < 64 =
    elim (cases_lt (1 + i) 64) [ inl inside ↦ inside | inr past ↦ absurd (omega (arith, at, bit_at_above w 64 (1 + i) fits past)) ] in
    record {
      within = within;
      holds = is_true (f (base + (1 + i))) (sym (a.each (1 + i) within) ∙ at);
      none = λ k below. is_false (f (base + (1 + k))) (sym (a.each (1 + k) (omega arith)) ∙ later_bit w k ∙ first.2 k below);
    }

-- a fact on each of eight numbers in a row
pub eight : (P : ℕ → ℕ → Type 0) (a b c d e f g h : ℕ) → P 0 a → P 1 b → P 2 c → P 3 d → P 4 e → P 5 f → P 6 g → P 7 h
    → (k : ℕ) → k < 8 → P k (get_or (a ∷ b ∷ c ∷ d ∷ e ∷ f ∷ g ∷ h ∷ []) k 0)
eight P a b c d e f g h pa pb pc pd pe pf pg ph zero below = pa
eight P a b c d e f g h pa pb pc pd pe pf pg ph (suc zero) below = pb
eight P a b c d e f g h pa pb pc pd pe pf pg ph (suc (suc zero)) below = pc
eight P a b c d e f g h pa pb pc pd pe pf pg ph (suc (suc (suc zero))) below = pd
eight P a b c d e f g h pa pb pc pd pe pf pg ph (suc (suc (suc (suc zero)))) below = pe
eight P a b c d e f g h pa pb pc pd pe pf pg ph (suc (suc (suc (suc (suc zero))))) below = pf
eight P a b c d e f g h pa pb pc pd pe pf pg ph (suc (suc (suc (suc (suc (suc zero)))))) below = pg
eight P a b c d e f g h pa pb pc pd pe pf pg ph (suc (suc (suc (suc (suc (suc (suc zero))))))) below = ph
eight P a b c d e f g h pa pb pc pd pe pf pg ph (suc (suc (suc (suc (suc (suc (suc (suc k)))))))) below = absurd (omega arith)
