-- equal lists of numbers, and the places of held calls in turn
use lib.Pointwise.{pointwise}
use native.Mathlib.Omega.{arith}
use Rattle.std.proofs.Common.{◌≡◌, ℕ, zero, suc, ◌+◌, ◌<◌, nat_eq, Bool, true, ◌&&◌, Option, None, List, [], ◌∷◌, ◌++◌, length, take, drop, slice_index_or, slice_set, refl, sym, ◌∙◌, ap}
use Rattle.std.proofs.lemmas.Bool.{false≢true, eqb-true, eq-eqb, and_parts}
use Rattle.std.specs.Prelude.{map}
use Rattle.std.proofs.lemmas.List.{append-nil}
use Rattle.traffic_rules.specs.declared.acts.Act.{Act}
use Rattle.traffic_rules.specs.declared.held.Holding.{Holding}
use Rattle.traffic_rules.specs.Holding.{Places, place_of, with_place}
use Rattle.traffic_rules.specs.Repeating.{repeated, repeats}

pub same_list : (xs ys : List ℕ) → pointwise nat_eq xs ys ≡ true → xs ≡ ys
same_list [] [] h = refl
same_list [] (y ∷ ys) h = absurd (false≢true h)
same_list (x ∷ xs) [] h = absurd (false≢true h)
same_list (x ∷ xs) (y ∷ ys) h =
    let parts = and_parts (nat_eq x y) (pointwise nat_eq xs ys) h in
    ap (λ (z : ℕ). z ∷ xs) (eqb-true x y parts.0) ∙ ap (λ (zs : List ℕ). y ∷ zs) (same_list xs ys parts.1)

pub list_itself : (xs : List ℕ) → pointwise nat_eq xs xs ≡ true
list_itself [] = refl
list_itself (x ∷ xs) = ap (λ (b : Bool). b && pointwise nat_eq xs xs) (eq-eqb x x refl) ∙ list_itself xs

-- one place more has ticked
next_ticked : (f : Option Holding → Option Holding) (places : Places) (i : ℕ) → i < length places
    → slice_set (map f (take i places) ++ drop i places) i (f (slice_index_or (map f (take i places) ++ drop i places) i None)) ≡ map f (take (suc i) places) ++ drop (suc i) places
next_ticked f [] i below = absurd (omega arith)
next_ticked f (x ∷ places) zero below = refl
next_ticked f (x ∷ places) (suc i) below = ap (λ (rest : Places). f x ∷ rest) (next_ticked f places i (omega arith))

pub next_place : (f : Option Holding → Option Holding) (places : Places) (i : ℕ) → i < length places
    → slice_index_or (map f (take i places) ++ drop i places) i None ≡ slice_index_or places i None
next_place f [] i below = absurd (omega arith)
next_place f (x ∷ places) zero below = refl
next_place f (x ∷ places) (suc i) below = next_place f places i (omega arith)

pub append_again : (a b c : List Act) → (a ++ b) ++ c ≡ a ++ (b ++ c)
append_again [] b c = refl
append_again (x ∷ a) b c = ap (λ (rest : List Act). x ∷ rest) (append_again a b c)

next_repeats : (at : ℕ) (places : Places) (i n k : ℕ) → i < length places → k ≡ n + i
    → repeats at n (take (suc i) places) ≡ repeats at n (take i places) ++ repeated at k (slice_index_or places i None)
next_repeats at [] i n k below is = absurd (omega arith)
next_repeats at (x ∷ places) zero n k below is = ap (λ (m : ℕ). repeated at m x ++ []) (omega arith) ∙ append-nil (repeated at k x)
next_repeats at (x ∷ places) (suc i) n k below is =
    ap (λ (rest : List Act). repeated at n x ++ rest) (next_repeats at places i (suc n) k (omega arith) (omega arith))
    ∙ sym (append_again (repeated at n x) (repeats at (suc n) (take i places)) (repeated at k (slice_index_or places i None)))

pub place_at : (places : Places) (n i : ℕ) → n ≡ suc i → place_of places n ≡ slice_index_or places i None
place_at places n i is = ap (λ (m : ℕ). place_of places m) is

-- the same, where the next number of places is written as a sum
pub next_held : (f : Option Holding → Option Holding) (places : Places) (i n : ℕ) → i < length places → n ≡ suc i
    → with_place (map f (take i places) ++ drop i places) n (f (place_of (map f (take i places) ++ drop i places) n)) ≡ map f (take n places) ++ drop n places
next_held f places i n below is =
    ap (λ (m : ℕ). with_place (map f (take i places) ++ drop i places) m (f (place_of (map f (take i places) ++ drop i places) m))) is
    ∙ next_ticked f places i below ∙ ap (λ (m : ℕ). map f (take m places) ++ drop m places) (sym is)

pub next_acts : (at : ℕ) (places : Places) (i n : ℕ) → i < length places → n ≡ suc i
    → repeats at 1 (take n places) ≡ repeats at 1 (take i places) ++ repeated at n (slice_index_or places i None)
next_acts at places i n below is = ap (λ (m : ℕ). repeats at 1 (take m places)) is ∙ next_repeats at places i 1 n below (omega arith)
