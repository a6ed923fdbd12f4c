-- marks that show whether bytes are signs
use Rattle.std.proofs.Common.{◌≡◌, ℕ, ◌<◌, ◌^◌, ◌==◌, Bool, true, false, ◌||◌, cond, List, length, slice_index, max, refl, sym, ap, ◌∙◌, arith}
use Rattle.std.specs.Int.{bit_at}
use Rattle.std.specs.List.{list_all}
use Rattle.std.specs.Prelude.{bit_or}
use Rattle.std.proofs.lemmas.Bool.{false_from_ne_true, true_from_ne_false}
use Rattle.std.proofs.lemmas.List.{get_or_default}
use Rattle.std.proofs.lemmas.List.Folds.{list_all_at}
use Rattle.std.proofs.lemmas.List.Sums.{list_all-from_AllPass}
use Rattle.std.proofs.lemmas.Nat.{or_lt}
use Rattle.std.proofs.lemmas.Nat.Bits.{bit_at_or, bit_at_ones, same_from_bits_below}
use Rattle.ten_unit.specs.Signs.{is_sign}

abbrev IsEqual : (word : ℕ) (bytes : List ℕ) (code : ℕ) → Type 0
IsEqual word bytes code = (i : ℕ) → i < 64 → bit_at word i ≡ cond (slice_index bytes i == code) 1 0

-- what the bits of two signs or of three say together
two_bits : (a b c : Bool) → max (cond a 1 0) (cond b 1 0) ≡ 1 → (a || (b || c)) ≡ true
two_bits true b c h = refl
two_bits false true c h = refl
two_bits false false c h = absurd (omega (arith, h))

three_bits : (a b c : Bool) → max (max (cond a 1 0) (cond b 1 0)) (cond c 1 0) ≡ cond (a || (b || c)) 1 0
three_bits true true true = refl
three_bits true true false = refl
three_bits true false true = refl
three_bits true false false = refl
three_bits false true true = refl
three_bits false true false = refl
three_bits false false true = refl
three_bits false false false = refl

is_one : (a : Bool) → ◌≡◌ {A = ℕ} (cond a 1 0) 1 → a ≡ true
is_one true h = refl
is_one false h = absurd (omega (arith, h))

-- a word of ones
is_full : (word i : ℕ) → word ≡ 18446744073709551615 → i < 64 → bit_at word i ≡ 1
is_full word i h below = ap (λ (n : ℕ). bit_at n i) h ∙ bit_at_ones 64 i below

each_sign : (bytes : List ℕ) → length bytes ≡ 64 → ((i : ℕ) → i < 64 → is_sign (slice_index bytes i) ≡ true) → list_all is_sign bytes ≡ true
each_sign bytes long each =
    list_all-from_AllPass is_sign bytes (λ k d inside. ap is_sign (get_or_default bytes k d 0 inside) ∙ each k (omega (arith, long, inside)))

both_bits : (y b i : ℕ) (bytes : List ℕ) → IsEqual y bytes 89 → IsEqual b bytes 66 → i < 64 → bit_at (bit_or y b) i ≡ max (cond (slice_index bytes i == 89) 1 0) (cond (slice_index bytes i == 66) 1 0)
both_bits y b i bytes ys bs below = bit_at_or y b i ∙ (λ k. max (ys i below k) (bs i below k))

all_bits : (y b d i : ℕ) (bytes : List ℕ) → IsEqual y bytes 89 → IsEqual b bytes 66 → IsEqual d bytes 45 → i < 64
    → bit_at (bit_or (bit_or y b) d) i ≡ cond (is_sign (slice_index bytes i)) 1 0
all_bits y b d i bytes ys bs ds below =
    let x = slice_index bytes i in
    bit_at_or (bit_or y b) d i ∙ (λ k. max (both_bits y b i bytes ys bs below k) (ds i below k)) ∙ three_bits (x == 89) (x == 66) (x == 45)

-- where each byte is one of two signs
pub two_full : (y b : ℕ) (bytes : List ℕ) → length bytes ≡ 64 → IsEqual y bytes 89 → IsEqual b bytes 66 → bit_or y b ≡ 18446744073709551615 → list_all is_sign bytes ≡ true
two_full y b bytes long ys bs full =
    each_sign bytes long (λ i below.
    let x = slice_index bytes i in
    two_bits (x == 89) (x == 66) (x == 45) (sym (both_bits y b i bytes ys bs below) ∙ is_full (bit_or y b) i full below))

-- and where it is one of three
pub three_full : (y b d : ℕ) (bytes : List ℕ) → length bytes ≡ 64 → IsEqual y bytes 89 → IsEqual b bytes 66 → IsEqual d bytes 45 → bit_or (bit_or y b) d ≡ 18446744073709551615
    → list_all is_sign bytes ≡ true
three_full y b d bytes long ys bs ds full =
    each_sign bytes long (λ i below. is_one (is_sign (slice_index bytes i)) (sym (all_bits y b d i bytes ys bs ds below) ∙ is_full (bit_or (bit_or y b) d) i full below))

-- where all are signs, all bits are set
sign_at : (bytes : List ℕ) (i : ℕ) → i < length bytes → list_all is_sign bytes ≡ true → is_sign (slice_index bytes i) ≡ true
sign_at bytes i inside all = true_from_ne_false (is_sign (slice_index bytes i)) (λ fails. let h = sym all ∙ list_all_at is_sign bytes i 0 inside fails in absurd (cc))

pub not_full : (y b d : ℕ) (bytes : List ℕ) → length bytes ≡ 64 → y < 2 ^ 64 → b < 2 ^ 64 → d < 2 ^ 64 → IsEqual y bytes 89 → IsEqual b bytes 66 → IsEqual d bytes 45
    → (bit_or (bit_or y b) d ≡ 18446744073709551615 → ⊥) → list_all is_sign bytes ≡ false
not_full y b d bytes long fy fb fd ys bs ds short =
    false_from_ne_true (list_all is_sign bytes) (λ all.
    short (same_from_bits_below 64 (bit_or (bit_or y b) d) 18446744073709551615 (or_lt 64 (bit_or y b) d (or_lt 64 y b fy fb) fd) (omega arith)
    (λ i below. all_bits y b d i bytes ys bs ds below ∙ ap (λ (t : Bool). cond t 1 0) (sign_at bytes i (omega (arith, long, below)) all) ∙ sym (bit_at_ones 64 i below))))
