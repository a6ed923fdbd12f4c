-- How a sheet keeps its places: two numbers each. This project's own form.
use Rattle.std.specs.Prelude.{◌≡◌, ℕ, ◌+◌, nat_lt, if◌then◌else◌, List, [], ◌∷◌, length}
use Rattle.slot_evidence.specs.declared.places.Seen.{Seen}
use Rattle.slot_evidence.specs.TwoNumbers.{seen_between, AreInOrder}

-- what the least symbols and the numbers after the greatest say of places in a row
abbrev pub seen_of : List ℕ → List ℕ → List Seen
seen_of (least ∷ leasts) (past ∷ pasts) = seen_between least past ∷ seen_of leasts pasts
seen_of _ _ = []

-- the number after a symbol, and 0 after 128
abbrev pub past_symbol : ℕ → ℕ
past_symbol symbol = if nat_lt symbol 128 then symbol + 1 else 0

-- the two numbers of places in a row are in order, and there are as many of the one as of the other
abbrev pub AreOrdered : List ℕ → List ℕ → Type 0
AreOrdered [] [] = Unit {0}
AreOrdered (least ∷ leasts) (past ∷ pasts) = AreInOrder least past × AreOrdered leasts pasts
AreOrdered _ _ = ⊥

-- the two numbers of each of 64 places
pub record AreKept (leasts pasts : List ℕ) : Type 0 where
  pub places : length leasts ≡ 64
  pub ordered : AreOrdered leasts pasts
