-- Ten bits of two words are the number of ten elements.
use Rattle.std.proofs.Common.{◌≡◌, ℕ, zero, suc, ◌+◌, ◌-◌, ◌*◌, ◌/◌, ◌%◌, ◌^◌, ◌<◌, ◌≤◌, max, cond, length, refl, ap, sym, ◌∙◌, arith, w64, bit_and, bit_or}
use Rattle.std.specs.Int.{bit_at, bit_not}
use Rattle.std.proofs.Math.Nat.{div-div-eq-div-mul}
use Rattle.std.proofs.lemmas.Nat.{pow-add, mod-pow-add, and_mask, or_lt}
use Rattle.std.proofs.lemmas.Nat.Bits.{bit_at-suc, bit_at_lowest, bit_at_or, bit_at_not}
use Rattle.ten_unit.specs.declared.character.Element.{Element}
use Rattle.ten_unit.specs.declared.character.Element.TheVariants.{Y, B, Lost}
use Rattle.ten_unit.specs.Word.{element_eq}
use Rattle.ten_unit.specs.inside.Marks.{IsPlanes}
use Rattle.ten_unit.specs.inside.Number.{weight, number_of}
use Rattle.ten_unit.specs.inside.Symbol.{stretch}

pub long_stretch : (e : ℕ → Element) (n p : ℕ) → length (stretch e n p) ≡ n
unfolding stretch
long_stretch e zero p = refl
long_stretch e (suc n) p = ap suc (long_stretch e n (p + 1))

first_bit : (y lost p : ℕ) (e : ℕ → Element) → weight (e (p + 0)) ≡ bit_at y 0 + 1024 * bit_at lost 0 → weight (e p) ≡ y % 2 + 1024 * (lost % 2)
first_bit y lost p e first =
    let place : p ≡ p + 0 = omega arith in
    let at : weight (e p) ≡ weight (e (p + 0)) = ap (λ (q : ℕ). weight (e q)) place in
    let low : bit_at y 0 ≡ y % 2 = bit_at_lowest y in
    let low_lost : bit_at lost 0 ≡ lost % 2 = bit_at_lowest lost in
    omega arith

next_bit : (y lost p k : ℕ) (e : ℕ → Element) → weight (e (p + suc k)) ≡ bit_at y (suc k) + 1024 * bit_at lost (suc k) → weight (e (p + 1 + k)) ≡ bit_at (y / 2) k + 1024 * bit_at (lost / 2) k
next_bit y lost p k e next =
    let place : p + 1 + k ≡ p + suc k = omega arith in
    ap (λ (q : ℕ). weight (e q)) place ∙ next ∙ ap (λ (n : ℕ). n + 1024 * bit_at lost (suc k)) (bit_at-suc y k) ∙ ap (λ (n : ℕ). bit_at (y / 2) k + 1024 * n) (bit_at-suc lost k)

-- the last bits, the last one apart
halves : (m n : ℕ) → m % 2 ^ suc n ≡ m / 2 % 2 ^ n * 2 + m % 2
halves m n =
    let more : suc n ≡ n + 1 = omega arith in
    ap (λ (k : ℕ). m % 2 ^ k) more ∙ mod-pow-add m n 1

-- where bit k of one word and bit k of another say what element k counts, the words' last bits say the number of them
-- all
number_bits : (n y lost p : ℕ) (e : ℕ → Element) → ((k : ℕ) → k < n → weight (e (p + k)) ≡ bit_at y k + 1024 * bit_at lost k) → number_of (stretch e n p) ≡ y % 2 ^ n + 1024 * (lost % 2 ^ n)
unfolding stretch
number_bits zero y lost p e each = omega arith
number_bits (suc n) y lost p e each =
    let first : weight (e p) ≡ y % 2 + 1024 * (lost % 2) = first_bit y lost p e (each 0 (omega arith)) in
    let rest : number_of (stretch e n (p + 1)) ≡ y / 2 % 2 ^ n + 1024 * (lost / 2 % 2 ^ n) =
    number_bits n (y / 2) (lost / 2) (p + 1) e (λ k below. next_bit y lost p k e (each (suc k) (omega arith)))
    in
    omega (arith, halves y n, halves lost n)

-- a bit of a shifted word
pub bit_at-shr : (word shift k : ℕ) → bit_at (word / 2 ^ shift) k ≡ bit_at word (shift + k)
bit_at-shr word shift k = ap (λ (n : ℕ). n % 2) (div-div-eq-div-mul word (2 ^ shift) (2 ^ k) ∙ ap (λ (n : ℕ). word / n) (sym (pow-add 2 shift k)))

shifted_count : (y lost base first k : ℕ) (e : ℕ → Element) → weight (e (base + (first + k))) ≡ bit_at y (first + k) + 1024 * bit_at lost (first + k)
    → weight (e (base + first + k)) ≡ bit_at (y / 2 ^ first) k + 1024 * bit_at (lost / 2 ^ first) k
shifted_count y lost base first k e at =
    let place : base + first + k ≡ base + (first + k) = omega arith in
    ap (λ (q : ℕ). weight (e q)) place ∙ at
    ∙ ap (λ (n : ℕ). n + 1024 * bit_at lost (first + k)) (sym (bit_at-shr y first k))
    ∙ ap (λ (n : ℕ). bit_at (y / 2 ^ first) k + 1024 * n) (sym (bit_at-shr lost first k))

counts : (x : Element) (y b : ℕ) → y ≡ cond (element_eq x Y) 1 0 → b ≡ cond (element_eq x B) 1 0 → weight x ≡ y + 1024 * (1 - max y b)
counts Y y b is_y is_b = omega arith
counts B y b is_y is_b = omega arith
counts Lost y b is_y is_b = omega arith

-- what an element counts, by its bits
bits_count : (y b base i : ℕ) (e : ℕ → Element) → IsPlanes y b base e → i < 64 → weight (e (base + i)) ≡ bit_at y i + 1024 * bit_at (bit_not w64 (bit_or y b)) i
bits_count y b base i e is below =
    counts (e (base + i)) (bit_at y i) (bit_at b i) (is.ys.each i below) (is.bs.each i below)
    ∙ ap (λ (n : ℕ). bit_at y i + 1024 * (1 - n)) (sym (bit_at_or y b i))
    ∙ ap (λ (n : ℕ). bit_at y i + 1024 * n) (sym (bit_at_not w64 (bit_or y b) i (or_lt 64 y b is.ys.fits is.bs.fits) below))

pub number_at : (y b base first : ℕ) (e : ℕ → Element) → IsPlanes y b base e → first + 10 ≤ 64
    → number_of (stretch e 10 (base + first)) ≡ bit_and (y / 2 ^ first) 1023 + 1024 * bit_and (bit_not w64 (bit_or y b) / 2 ^ first) 1023
number_at y b base first e is inside =
    let lost = bit_not w64 (bit_or y b) in
    number_bits 10 (y / 2 ^ first) (lost / 2 ^ first) (base + first) e
    (λ k below. shifted_count y lost base first k e (bits_count y b base (first + k) e is (omega arith)))
    ∙ ap (λ (n : ℕ). n + 1024 * (lost / 2 ^ first % 2 ^ 10)) (sym (and_mask (y / 2 ^ first) 10))
    ∙ ap (λ (n : ℕ). bit_and (y / 2 ^ first) 1023 + 1024 * n) (sym (and_mask (lost / 2 ^ first) 10))
