-- bits of numbers that are shifted
use Rattle.std.proofs.Common.{◌≡◌, ℕ, ◌+◌, ◌-◌, ◌*◌, ◌/◌, ◌%◌, ◌^◌, ◌<◌, ◌≤◌, add-zero, inl, inr, arith, ap, sym, ◌∙◌}
use Rattle.std.specs.Int.{bit_at}
use Rattle.std.proofs.lemmas.Bool.{cases_lt}
use Rattle.std.proofs.lemmas.Nat.{shr_split, pow_pos}
use Rattle.std.proofs.lemmas.Nat.Bits.{bit_at-zero, bit_at_cat_low, bit_at_cat_high}

bit_at-mod : (n w i : ℕ) → i < w → bit_at (n % 2 ^ w) i ≡ bit_at n i
bit_at-mod n w i h = sym (bit_at_cat_low (n / 2 ^ w) w (n % 2 ^ w) i h) ∙ ap (λ m. bit_at m i) (shr_split n w)

bit_at-shl_low : (n k i : ℕ) → i < k → bit_at (n * 2 ^ k) i ≡ 0
bit_at-shl_low n k i h = ap (λ m. bit_at m i) (sym (add-zero (n * 2 ^ k))) ∙ bit_at_cat_low n k 0 i h ∙ bit_at-zero i

bit_at-shl_high : (n k i : ℕ) → k ≤ i → bit_at (n * 2 ^ k) i ≡ bit_at n (i - k)
bit_at-shl_high n k i h = ap (λ m. bit_at m i) (sym (add-zero (n * 2 ^ k))) ∙ bit_at_cat_high n k 0 i (pow_pos k) h

-- a word of 64 bits that is moved up by one and then by the rest of 64 - s
abbrev pub moved_up : ℕ → ℕ → ℕ
moved_up n s = n * 2 ^ 1 % 2 ^ 64 * 2 ^ (63 - s) % 2 ^ 64

-- the low bits are 0
pub moved_up-low : (n s i : ℕ) → s + i < 64 → bit_at (moved_up n s) i ≡ 0
moved_up-low n s i h =
    bit_at-mod (n * 2 ^ 1 % 2 ^ 64 * 2 ^ (63 - s)) 64 i (omega arith)
    ∙ elim (cases_lt i (63 - s)) as (λ _. bit_at (n * 2 ^ 1 % 2 ^ 64 * 2 ^ (63 - s)) i ≡ 0) [
      | inl low ↦ bit_at-shl_low (n * 2 ^ 1 % 2 ^ 64) (63 - s) i low
      | inr high ↦
          bit_at-shl_high (n * 2 ^ 1 % 2 ^ 64) (63 - s) i high
          ∙ bit_at-mod (n * 2 ^ 1) 64 (i - (63 - s)) (omega arith)
          ∙ bit_at-shl_low n 1 (i - (63 - s)) (omega arith)
    ]

-- the high bits are the number's low ones
pub moved_up-high : (n s i : ℕ) → s < 64 → i < 64 → 64 ≤ s + i → bit_at (moved_up n s) i ≡ bit_at n (s + i - 64)
moved_up-high n s i small below h =
    let place : i - (63 - s) - 1 ≡ s + i - 64 = omega arith in
    bit_at-mod (n * 2 ^ 1 % 2 ^ 64 * 2 ^ (63 - s)) 64 i below
    ∙ bit_at-shl_high (n * 2 ^ 1 % 2 ^ 64) (63 - s) i (omega arith)
    ∙ bit_at-mod (n * 2 ^ 1) 64 (i - (63 - s)) (omega arith)
    ∙ bit_at-shl_high n 1 (i - (63 - s)) (omega arith)
    ∙ ap (bit_at n) place
