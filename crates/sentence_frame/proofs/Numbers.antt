-- the numbers of few digits
use Rattle.std.proofs.Common.{ℕ, ◌^◌, ◌<◌, ◌≤◌, arith}
use Rattle.line_grammar.proofs.ShapesNumerals.{power_order}

pub seven_digits : (n i m : ℕ) → n < 10 ^ i → i < m → m ≤ 8 → n < 10000000
seven_digits n i m h low high = let most : 10 ^ i ≤ 10 ^ 7 = power_order i 7 (omega arith) in omega (arith, h, most)
