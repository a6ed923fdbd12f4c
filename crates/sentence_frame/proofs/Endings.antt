-- endings and checksums
use Rattle.std.proofs.Common.{◌≡◌, ℕ, ◌/◌, ◌%◌, ◌^◌, ◌<◌, true, List, [], ◌∷◌, length, get_or, refl, ◌∙◌, ap, arith, bit_xor}
use Rattle.std.specs.List.{list_all, fold}
use Rattle.std.proofs.lemmas.Bool.{and_parts}
use Rattle.std.proofs.lemmas.Bool.Decides.{nat_tests}
use Rattle.std.proofs.lemmas.Nat.{xor_lt}
use Rattle.sentence_frame.specs.Frames.{checksum, hexadecimal, ending}
use Rattle.sentence_frame.specs.Refusals.{is_hexadecimal, hexadecimal_value, written, is_ending, is_clean}
use Rattle.sentence_frame.proofs.Heads.{IsEnding}

pub value_small : (b : ℕ) → is_hexadecimal b ≡ true → hexadecimal_value b < 16
value_small b h = grind (arith, nat_tests)

pub value_back : (b : ℕ) → is_hexadecimal b ≡ true → hexadecimal (hexadecimal_value b) ≡ b
value_back b h = grind (arith, nat_tests)

pub digit_is : (d : ℕ) → d < 16 → is_hexadecimal (hexadecimal d) ≡ true
digit_is d h = grind (arith, nat_tests)

-- a list of five is its five elements
five : (x : List ℕ) → length x ≡ 5 → x ≡ get_or x 0 0 ∷ get_or x 1 0 ∷ get_or x 2 0 ∷ get_or x 3 0 ∷ get_or x 4 0 ∷ []
five [] h = absurd (omega (arith, h))
five (a ∷ []) h = absurd (omega (arith, h))
five (a ∷ b ∷ []) h = absurd (omega (arith, h))
five (a ∷ b ∷ c ∷ []) h = absurd (omega (arith, h))
five (a ∷ b ∷ c ∷ d ∷ []) h = absurd (omega (arith, h))
five (a ∷ b ∷ c ∷ d ∷ e ∷ []) h = refl
five (a ∷ b ∷ c ∷ d ∷ e ∷ f ∷ x) h = absurd (omega (arith, h))

-- an ending is that of the number that it writes
pub ending_text : (x : List ℕ) → IsEnding x → ending (written x) ≡ x
ending_text x h =
    let high = get_or x 1 0 in
    let low = get_or x 2 0 in
    let small = value_small high h.high in
    let least = value_small low h.low in
    let quotient : written x / 16 ≡ hexadecimal_value high = omega (arith, small, least) in
    let remainder : written x % 16 ≡ hexadecimal_value low = omega (arith, small, least) in
    let first : hexadecimal (written x / 16) ≡ high = ap hexadecimal quotient ∙ value_back high h.high in
    let second : hexadecimal (written x % 16) ≡ low = ap hexadecimal remainder ∙ value_back low h.low in
    let whole = five x h.len in
    let star = h.star in
    let cr = h.cr in
    let lf = h.lf in
    cc

pub written_ending : (sum : ℕ) → sum < 256 → written (ending sum) ≡ sum
written_ending sum h = grind arith

pub ending_is : (sum : ℕ) → sum < 256 → is_ending (ending sum) ≡ true
ending_is sum h =
    let high : is_hexadecimal (hexadecimal (sum / 16)) ≡ true = digit_is (sum / 16) (omega arith) in
    let low : is_hexadecimal (hexadecimal (sum % 16)) ≡ true = digit_is (sum % 16) (omega arith) in
    rw (high, low) refl

-- the checksum of clean bytes
clean_small : (b : ℕ) → is_clean b ≡ true → b < 2 ^ 7
clean_small b h = grind arith

fold_small : (sum : ℕ) (bytes : List ℕ) → sum < 2 ^ 7 → list_all is_clean bytes ≡ true → fold bit_xor sum bytes < 2 ^ 7
fold_small sum [] h all = h
fold_small sum (b ∷ bytes) h all =
    let both = and_parts (is_clean b) (list_all is_clean bytes) all in
    fold_small (bit_xor sum b) bytes (xor_lt 7 sum b h (clean_small b both.0)) both.1

pub checksum_small : (bytes : List ℕ) → list_all is_clean bytes ≡ true → checksum bytes < 256
unfolding checksum
checksum_small bytes all = let h = fold_small 0 bytes (omega arith) all in omega (arith, h)
