-- Facts that may be posted on a shared board: this project's profile.
use Rattle.std.specs.Prelude.{◌≡◌, ℕ, ◌<◌, true, List, Contains}
use Rattle.slot_evidence.specs.declared.places.Seen.{Seen}
use Rattle.slot_evidence.specs.Sheet.{facts_in}

-- the fact that this place showed this symbol may be posted: it is one of the list, and there is such a place and such
-- a symbol
pub record IsAllowed (facts : List (ℕ × ℕ)) (p v : ℕ) : Type 0 where
  pub place : p < 64
  pub symbol : v < 128
  pub listed : Contains facts (p, v)

-- a sheet keeps only facts that may be posted
abbrev pub OnlyAllowed : List (ℕ × ℕ) → List Seen → Type 0
OnlyAllowed facts sheet = (p v : ℕ) → facts_in sheet p v ≡ true → IsAllowed facts p v
