-- The groups of a batch of receptions: this project's profile.
use Rattle.std.specs.Prelude.{◌≡◌, ℕ, ◌<◌, ◌≤◌, ◌&&◌, ◌||◌, ◌==◌, not, false, List, [], ◌∷◌, All, length, map, slice_index_or}
use Rattle.std.specs.List.{filter, list_any}
use Rattle.phasing.specs.declared.reception.TheConstants.{LONGEST}
use Rattle.slot_evidence.specs.declared.places.Seen.{Seen}
use Rattle.slot_evidence.specs.Facts.{Facts, facts_of}
use Rattle.slot_evidence.specs.Sheet.{IsEnds, facts_in}
use Rattle.slot_evidence.specs.Alike.{AreAlike}
use Rattle.receiver_pool.specs.declared.group_entries.GroupReception.{GroupReception}
use Rattle.receiver_pool.specs.declared.group_entries.GroupSheet.{GroupSheet}

-- a reception that isn't too long
abbrev pub IsShort : GroupReception → Type 0
IsShort heard = length heard.reception ≤ LONGEST

-- a reception of one of so many groups, and not too long
pub record Belongs (groups : ℕ) (heard : GroupReception) : Type 0 where
  pub group : heard.group < groups
  pub short : IsShort heard

-- what any reception of this group shows
unfoldable pub facts_of_group : List GroupReception → ℕ → Facts
facts_of_group batch k p v = list_any (λ heard. heard.group == k && facts_of heard.reception p v) batch

-- there are n sheets, and each keeps the ends of its group's facts
pub record AreSheets (F : ℕ → Facts) (sheets : List (List Seen)) (n : ℕ) : Type 0 where
  pub count : length sheets ≡ n
  pub each : (k : ℕ) → k < n → IsEnds (F k) (slice_index_or sheets k [])

-- an entry whose sheet keeps the ends of these facts, those of its group, and other entries that show the rest
pub record ShowsFirst (F : ℕ → Facts) (first : GroupSheet) (Others : (ℕ → Facts) → Type 0) : Type 0 where
  pub facts : Facts
  pub ends : IsEnds facts first.sheet
  pub rest : ℕ → Facts
  pub others : Others rest
  pub are : (k p v : ℕ) → F k p v ≡ ((first.group == k && facts p v) || rest k p v)

-- these are the facts of each group that the entries show together
abbrev pub AreShown : (ℕ → Facts) → List GroupSheet → Type 0
AreShown F [] = (k p v : ℕ) → F k p v ≡ false
AreShown F (entry ∷ entries) = ShowsFirst F entry (λ rest. AreShown rest entries)

-- an entry of one of so many groups
abbrev pub IsOneOf : ℕ → GroupSheet → Type 0
IsOneOf groups entry = entry.group < groups

-- the groups that receptions name, each once, in the order in which they are first named
abbrev pub groups_of : List GroupReception → List ℕ
groups_of [] = []
groups_of (heard ∷ batch) = heard.group ∷ filter (λ k. not (heard.group == k)) (groups_of batch)

-- the entries show these facts of each group; there is one of each group that the batch names, in the order in which it
-- first names them
pub record Shows (F : ℕ → Facts) (batch : List GroupReception) (entries : List GroupSheet) : Type 0 where
  pub facts : AreShown F entries
  pub groups : (n : ℕ) → All (Belongs n) batch → All (IsOneOf n) entries
  pub named : map (λ entry. entry.group) entries ≡ groups_of batch

-- what is known of the group with this number: nothing where there is no sheet of it
abbrev pub known_at : List (List Seen) → ℕ → List Seen
known_at known k = slice_index_or known k []

-- with what is known, the ones and the others have the same ends at each place
abbrev pub AreAlikeBeyond : List Seen → Facts → Facts → Type 0
AreAlikeBeyond known F G = (p : ℕ) → AreAlike (λ v. facts_in known p v || F p v) (λ v. facts_in known p v || G p v)

-- the entries show what is news of each group, and with what is known of it this has the ends of these facts
pub record ShowsNews (known : List (List Seen)) (F : ℕ → Facts) (batch : List GroupReception) (entries : List GroupSheet) : Type 0 where
  pub news : ℕ → Facts
  pub shows : Shows news batch entries
  pub alike : (k : ℕ) → AreAlikeBeyond (known_at known k) (F k) (news k)
