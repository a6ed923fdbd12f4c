-- What a set of facts keeps of a place: this project's profile.
use Rattle.std.specs.Prelude.{◌≡◌, ℕ, ◌<◌, ◌≤◌, true, false, ◌||◌, ◌==◌}
use Rattle.slot_evidence.specs.declared.places.Seen.{Seen}
use Rattle.slot_evidence.specs.declared.places.Seen.TheVariants as seen
use Rattle.slot_evidence.specs.Facts.{Symbols}

-- no symbol was shown
abbrev pub ShowsNone : Symbols → Type 0
ShowsNone S = (v : ℕ) → S v ≡ false

-- one symbol was shown, and no other
abbrev pub ShowsOne : Symbols → ℕ → Type 0
ShowsOne S v = (S v ≡ true) × ((w : ℕ) → S w ≡ true → w ≡ v)

-- several symbols were shown, from the least to the greatest
pub record ShowsSeveral (S : Symbols) (least greatest : ℕ) : Type 0 where
  pub has_least : S least ≡ true
  pub has_greatest : S greatest ≡ true
  pub apart : least < greatest
  pub between : (w : ℕ) → S w ≡ true → (least ≤ w) × (w ≤ greatest)

-- what is kept of a set of symbols: none, the one, or the least and the greatest of several
abbrev pub IsSeen : Symbols → Seen → Type 0
IsSeen S seen.None = ShowsNone S
IsSeen S (seen.One v) = ShowsOne S v
IsSeen S (seen.Differ least greatest) = ShowsSeveral S least greatest

-- the symbols that are kept: none, the one, or the least and the greatest
abbrev pub symbols_in : Seen → Symbols
symbols_in seen.None v = false
symbols_in (seen.One w) v = v == w
symbols_in (seen.Differ least greatest) v = v == least || v == greatest

-- symbols are below 128, and of several the least is below the greatest
abbrev pub IsLawful : Seen → Type 0
IsLawful seen.None = Unit {0}
IsLawful (seen.One v) = v < 128
IsLawful (seen.Differ least greatest) = (least < greatest) × (greatest < 128)
