-- Numbers from 0 on, and lists that are built of them.
use Rattle.std.proofs.Common.{◌≡◌, ℕ, zero, suc, ◌+◌, ◌<◌, List, [], ◌∷◌, ◌++◌, flat_map, sym, ap, ◌∙◌, append-nil, arith}
use Rattle.std.specs.List.{range_with_len}
use Rattle.std.proofs.lemmas.Grind.{flat_map-append}
use Rattle.std.proofs.lemmas.List.{map-id}
use Rattle.std.proofs.lemmas.List.FromFn.{map-range_with_len_more}
use Rattle.join_groups.specs.Groups.{AreAbove, IsRising}

pub range_more : (n : ℕ) → range_with_len 0 (n + 1) ≡ range_with_len 0 n ++ n ∷ []
range_more n =
    sym (map-id (range_with_len 0 (n + 1))) ∙ map-range_with_len_more (λ (x : ℕ). x) 0 n n (omega arith)
    ∙ ap (λ (l : List ℕ). l ++ n ∷ []) (map-id (range_with_len 0 n))

pub flat_more : {A : Type 0} (f : ℕ → List A) (n : ℕ) → flat_map f (range_with_len 0 (n + 1)) ≡ flat_map f (range_with_len 0 n) ++ f n
flat_more f n =
    ap (λ (l : List ℕ). flat_map f l) (range_more n) ∙ flat_map-append f (range_with_len 0 n) (n ∷ [])
    ∙ ap (λ l. flat_map f (range_with_len 0 n) ++ l) (append-nil (f n))

above_range : (k a n : ℕ) → k < a → AreAbove k (range_with_len a n)
above_range k a zero lt = tt
above_range k a (suc n) lt = (lt, above_range k (a + 1) n (omega (arith, lt)))

-- they rise
pub rising_range : (a n : ℕ) → IsRising (range_with_len a n)
rising_range a zero = tt
rising_range a (suc n) = (above_range a (a + 1) n (omega arith), rising_range (a + 1) n)
