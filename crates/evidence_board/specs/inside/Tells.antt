-- What a seat learns by the step that it makes. This project's own form.
use Rattle.std.specs.Prelude.{◌≡◌, ◌≢◌, ℕ, suc, ◌+◌, ◌<◌, ◌≤◌, List, length}
use Rattle.atomic_table.specs.Table.{Me, Step}
use Rattle.slot_evidence.specs.Allowed.{IsAllowed}
use Rattle.evidence_board.specs.declared.seats.TheConstants.{WHOLE}
use Rattle.evidence_board.specs.Views.{Place, View, place_at}
use Rattle.evidence_board.specs.Steps.{posted_least, posted_past, loaded_least, loaded_past}

-- place p of a view became c, and nothing else changed
pub record Changed (before : View) (p : ℕ) (c : Place) (after : View) : Type 0 where
  pub here : place_at after p ≡ c
  pub others : (q : ℕ) → q ≢ p → place_at after q ≡ place_at before q
  pub share : after.share ≡ before.share
  pub size : length after.places ≡ length before.places

-- a symbol was posted on a least word
abbrev pub posts_least : Step ℕ → Me ℕ View → ℕ → Me ℕ View → Type 0
posts_least step before found after =
    Changed before.0 step.word (posted_least step.first (place_at before.0 step.word)) after.0 × (after.1 ≡ before.1)

-- a number was posted on the greatest word of a place
abbrev pub posts_past : Step ℕ → Me ℕ View → ℕ → Me ℕ View → Type 0
posts_past step before found after =
    ((p : ℕ) → step.word ≡ 64 + p → Changed before.0 p (posted_past step.first (place_at before.0 p)) after.0) × (after.1 ≡ before.1)

-- what is found in the least word of a place is no greater than what the seat saw, and may be posted
pub record IsLeastFound (facts : List (ℕ × ℕ)) (p : ℕ) (before : View) (found : ℕ) : Type 0 where
  pub no_less : found ≤ (place_at before p).seen.least
  pub met : 0 < (place_at before p).seen.past → found < (place_at before p).seen.past
  pub allowed : found < 128 → IsAllowed facts p found

-- a least word was loaded
abbrev pub loads_least : List (ℕ × ℕ) → Step ℕ → Me ℕ View → ℕ → Me ℕ View → Type 0
loads_least facts step before found after =
    Changed before.0 step.word (loaded_least found (place_at before.0 step.word)) after.0 × IsLeastFound facts step.word before.0 found × (after.1 ≡ before.1)

-- what is found in the greatest word of a place is no less than what the seat saw, and may be posted
pub record IsPastFound (facts : List (ℕ × ℕ)) (p : ℕ) (before : View) (found : ℕ) : Type 0 where
  pub no_less : (place_at before p).seen.past ≤ found
  pub least_allowed : (place_at before p).seen.least < 128 → IsAllowed facts p (place_at before p).seen.least
  pub allowed : (v : ℕ) → found ≡ suc v → IsAllowed facts p v

-- the greatest word of a place was loaded
abbrev pub loads_past : List (ℕ × ℕ) → Step ℕ → Me ℕ View → ℕ → Me ℕ View → Type 0
loads_past facts step before found after =
    ((p : ℕ) → step.word ≡ 64 + p → Changed before.0 p (loaded_past found (place_at before.0 p)) after.0 × IsPastFound facts p before.0 found) × (after.1 ≡ before.1)

-- nothing changed, and no share passes the whole one
abbrev pub weighs : Step ℕ → Me ℕ View → ℕ → Me ℕ View → Type 0
weighs step before found after = (after ≡ before) × (before.0.share ≤ WHOLE)
