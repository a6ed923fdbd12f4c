-- Sets of symbols with the same ends: this project's profile.
use Rattle.std.specs.Prelude.{◌≡◌, ℕ, ◌≤◌, true}
use Rattle.slot_evidence.specs.Facts.{Symbols}

-- the symbol is between two of the set, or is one of them
pub record IsBetween (S : Symbols) (v : ℕ) : Type 0 where
  pub low : ℕ
  pub high : ℕ
  pub has_low : S low ≡ true
  pub has_high : S high ≡ true
  pub above : low ≤ v
  pub below : v ≤ high

-- two sets are alike where each symbol of the one is between two of the other, or is one of them
pub record AreAlike (S T : Symbols) : Type 0 where
  pub forth : (v : ℕ) → S v ≡ true → IsBetween T v
  pub back : (v : ℕ) → T v ≡ true → IsBetween S v
