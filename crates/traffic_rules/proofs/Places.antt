-- places of held calls under numbers from one on
use native.Mathlib.Omega.{arith}
use Rattle.std.proofs.Common.{◌≡◌, ℕ, zero, suc, ◌+◌, ◌<◌, ◌≤◌, Bool, Option, Some, None, ◌∷◌, length, if◌then◌else◌, refl, ◌∙◌, ap}
use Rattle.std.specs.Prelude.{map, is_some, position}
use Rattle.std.specs.Option.{option_map}
use Rattle.std.proofs.lemmas.List.Quantifiers.{position-Some}
use Rattle.traffic_rules.specs.declared.held.Holding.{Holding}
use Rattle.traffic_rules.specs.Holding.{Places, place_of, with_place, calls_held, first_free}
use Rattle.traffic_rules.specs.HeldTold.{places_from}

abbrev pub HeldUnder : Type 0
HeldUnder = ℕ → Option Holding

pub so_many : (held : HeldUnder) (n c : ℕ) → length (places_from held n c) ≡ c
so_many held n zero = refl
so_many held n (suc c) = ap (λ (k : ℕ). suc k) (so_many held (suc n) c)

pub same_places : (f g : HeldUnder) (n c : ℕ) → ((k : ℕ) → n ≤ k → k < n + c → f k ≡ g k) → places_from f n c ≡ places_from g n c
same_places f g n zero same = refl
same_places f g n (suc c) same =
    ap (λ (x : Option Holding). x ∷ places_from f (suc n) c) (same n (omega arith) (omega arith))
    ∙ ap (λ (l : Places). g n ∷ l) (same_places f g (suc n) c (λ k low high. same k (omega arith) (omega arith)))

pub set_place : (f g : HeldUnder) (n : ℕ) (x : Option Holding) → 1 ≤ n → n ≤ 16 → g n ≡ x → ((k : ℕ) → 1 ≤ k → k ≤ 16 → (k ≡ n → ⊥) → g k ≡ f k)
    → places_from g 1 16 ≡ with_place (places_from f 1 16) n x
set_place f g n x low high here others = grind arith

pub mapped : (f g : HeldUnder) (change : Option Holding → Option Holding) (n c : ℕ) → ((k : ℕ) → n ≤ k → k < n + c → g k ≡ change (f k))
    → places_from g n c ≡ map change (places_from f n c)
mapped f g change n zero each = refl
mapped f g change n (suc c) each =
    ap (λ (x : Option Holding). x ∷ places_from g (suc n) c) (each n (omega arith) (omega arith))
    ∙ ap (λ (l : Places). change (f n) ∷ l) (mapped f g change (suc n) c (λ k low high. each k (omega arith) (omega arith)))

pub place_from : (f : HeldUnder) (n : ℕ) → 1 ≤ n → n ≤ 16 → place_of (places_from f 1 16) n ≡ f n
place_from f n low high = grind arith

pub no_place : (f : HeldUnder) (n : ℕ) → 16 < n → place_of (places_from f 1 16) n ≡ None
no_place f n past = grind arith

some_number : (o : Option ℕ) (n : ℕ) → option_map (λ (index : ℕ). suc index) o ≡ Some n → (index : ℕ) × (o ≡ Some index) × (n ≡ suc index)
some_number o n is = grind arith

-- the least number with a place that is such is one of 1 to 16
pub number_from : (p : Option Holding → Bool) (f : HeldUnder) (n : ℕ) → option_map (λ (index : ℕ). suc index) (position p (places_from f 1 16)) ≡ Some n → (1 ≤ n) × (n ≤ 16)
number_from p f n is =
    let found = some_number (position p (places_from f 1 16)) n is in
    let below = (position-Some p (places_from f 1 16) found.0 None found.1).0 in
    let many = so_many f 1 16 in
    (omega (arith, found.2), omega (arith, found.2, below, many))

pub free_number : (f : HeldUnder) (n : ℕ) → first_free (places_from f 1 16) ≡ Some n → (1 ≤ n) × (n ≤ 16)
free_number f n is = grind arith

one_at_most : (b : Bool) → (if b then 1 else 0) ≤ 1
one_at_most b = grind arith

-- in so many places no more calls are held
pub held_at_most : (held : HeldUnder) (n c : ℕ) → calls_held (places_from held n c) ≤ c
held_at_most held n zero = omega arith
held_at_most held n (suc c) = let rest = held_at_most held (suc n) c in let one = one_at_most (is_some (held n)) in omega (arith, rest, one)
