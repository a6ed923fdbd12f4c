-- The sheet of a set of facts: this project's profile.
use Rattle.std.specs.Prelude.{◌≡◌, ℕ, List, length, slice_index_or}
use Rattle.slot_evidence.specs.declared.places.Seen.{Seen}
use Rattle.slot_evidence.specs.declared.places.Seen.TheVariants as seen
use Rattle.slot_evidence.specs.Facts.{Facts, union}
use Rattle.slot_evidence.specs.Seen.{IsSeen, IsLawful, symbols_in}

-- what a sheet says of a place; past its end that nothing was shown
abbrev pub seen_at : List Seen → ℕ → Seen
seen_at sheet p = slice_index_or sheet p seen.None

-- a sheet has 64 places, each of them lawful
pub record IsSheet (sheet : List Seen) : Type 0 where
  pub places : length sheet ≡ 64
  pub lawful : (p : ℕ) → IsLawful (seen_at sheet p)

-- a sheet keeps the ends of a set of facts: of each place the least and the greatest symbol that it showed
pub record IsEnds (F : Facts) (sheet : List Seen) : Type 0 where
  pub places : length sheet ≡ 64
  pub each : (p : ℕ) → IsSeen (F p) (seen_at sheet p)

-- one sheet took in another: of whatever facts the two kept the ends, the new one keeps those of both together
abbrev pub IsMeet : (old other new : List Seen) → Type 0
IsMeet old other new = (F G : Facts) → IsEnds F old → IsEnds G other → IsEnds (union F G) new

-- the facts of a sheet: the least and the greatest symbol that it keeps of each place
abbrev pub facts_in : List Seen → Facts
facts_in sheet p = symbols_in (seen_at sheet p)
