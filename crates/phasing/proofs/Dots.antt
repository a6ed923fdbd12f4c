-- the dot pattern grows by one dot at its end
use Rattle.std.proofs.Common.{◌≡◌, ℕ, ◌+◌, [], ◌∷◌, ◌++◌, length, refl, arith}
use Rattle.std.proofs.lemmas.List.FromFn.{length-map-range_with_len, map-range_with_len_more}
use Rattle.phasing.specs.Sent.{dot, dots}

pub dots-none : [] ≡ dots 0
unfolding dots
dots-none = refl

-- so many dots are so many elements
pub length-dots : (n : ℕ) → length (dots n) ≡ n
unfolding dots
length-dots n = length-map-range_with_len dot 0 n

pub dots-more : (n : ℕ) → dots (n + 1) ≡ dots n ++ dot n ∷ []
unfolding dots
dots-more n = map-range_with_len_more dot 0 n n (omega arith)
