-- The least and the greatest of symbols, which may be one. This project's own form.
use Rattle.std.specs.Prelude.{◌≡◌, ℕ, ◌<◌, ◌≤◌, true}
use Rattle.slot_evidence.specs.Facts.{Symbols}

-- the least and the greatest of the symbols that were shown, which may be one
pub record IsSpan (S : Symbols) (least greatest : ℕ) : Type 0 where
  pub has_least : S least ≡ true
  pub has_greatest : S greatest ≡ true
  pub between : (w : ℕ) → S w ≡ true → (least ≤ w) × (w ≤ greatest)

-- the least and the greatest symbol are in order and below 128
abbrev pub IsLawfulSpan : ℕ × ℕ → Type 0
IsLawfulSpan (least, greatest) = (least ≤ greatest) × (greatest < 128)
