-- The numbers that groups have within a batch. This project's own form.
use Rattle.std.specs.Prelude.{◌≡◌, ◌≢◌, ℕ, ◌%◌, ◌<◌, ◌≤◌, Bool, false, ◌&&◌, ◌||◌, ◌==◌, if◌then◌else◌, zero, suc, List, [], ◌∷◌, ◌++◌, All, length, take, slice_index, slice_index_or}
use Rattle.std.specs.List.{list_any}
use Rattle.atomic_table.specs.Seated.{TableId}
use Rattle.slot_evidence.specs.Facts.{Facts, facts_of, union}
use Rattle.evidence_board.specs.Seats.{Held}
use Rattle.receiver_pool.specs.declared.batch_groups.Turns.{Turns}
use Rattle.receiver_pool.specs.declared.group_entries.GroupReception.{GroupReception}
use Rattle.receiver_pool.specs.declared.batch_groups.TheConstants.{NOWHERE, REMEMBERED}
use Rattle.slot_evidence.specs.declared.places.Seen.{Seen}
use Rattle.receiver_pool.specs.Groups.{AreAlikeBeyond, AreSheets, Belongs, IsShort, groups_of, known_at}
use Rattle.receiver_pool.specs.Rows.{AreSeats}
use Rattle.receiver_pool.specs.inside.Turns.{is_turn, taken, nobody}

-- a group's number is below n
abbrev pub IsBelow : ℕ → ℕ → Type 0
IsBelow n group = group < n

-- whether a group is one of these
abbrev pub is_listed : List ℕ → ℕ → Bool
is_listed groups group = list_any (λ known. known == group) groups

-- these groups, with this one put last if it is none of them
abbrev pub with_group : List ℕ → ℕ → List ℕ
with_group groups group = if is_listed groups group then groups else groups ++ group ∷ []

-- no group is at two places
abbrev pub AreApart : List ℕ → Type 0
AreApart groups = (i j : ℕ) → i < length groups → j < length groups → slice_index groups i ≡ slice_index groups j → i ≡ j

-- if a group is listed, some place is remembered for its remainder
abbrev pub AreRemembered : List ℕ → List ℕ → Type 0
AreRemembered groups remembered = (i : ℕ) → i < length groups → slice_index remembered (slice_index groups i % REMEMBERED) ≢ NOWHERE

-- each of the first n receptions has the place of its group, and only groups that the batch names have places
pub record AreNumbered (batch : List GroupReception) (n : ℕ) (groups places : List ℕ) : Type 0 where
  pub count : length places ≡ n
  pub inside : (i : ℕ) → i < n → slice_index places i < length groups
  pub same : (i : ℕ) → i < n → slice_index groups (slice_index places i) ≡ (slice_index_or batch i nobody).group
  pub bounded : (m : ℕ) → All (Belongs m) batch → All (IsBelow m) groups
  pub named : groups ≡ groups_of (take n batch)
  pub apart : AreApart groups

-- the group is at this place; the groups known before keep their places, and no other is new
pub record IsPlaced (group place : ℕ) (old new : List ℕ) : Type 0 where
  pub inside : place < length new
  pub here : slice_index new place ≡ group
  pub longer : length old ≤ length new
  pub kept : (k : ℕ) → k < length old → slice_index new k ≡ slice_index old k
  pub bounded : (n : ℕ) → group < n → All (IsBelow n) old → All (IsBelow n) new
  pub list : new ≡ with_group old group

-- each of n receptions has a place below count
pub record ArePlaces (n count : ℕ) (places : List ℕ) : Type 0 where
  pub long : length places ≡ n
  pub inside : (i : ℕ) → i < n → slice_index places i < count

-- what the reception with this index shows of the group at place k
abbrev pub nth_at : List GroupReception → List ℕ → ℕ → ℕ → Facts
nth_at batch places k index p v = slice_index places index == k && facts_of (slice_index_or batch index nobody).reception p v

-- the facts of those of the first n receptions that are taken, of the group at place k
abbrev pub place_part : (ℕ → Bool) → List GroupReception → List ℕ → ℕ → ℕ → Facts
place_part takes batch places n k = taken takes (nth_at batch places k) n

-- what the groups at the first m places show of group k
abbrev pub gathered : List ℕ → (ℕ → Facts) → ℕ → ℕ → Facts
gathered groups F zero k p v = false
gathered groups F (suc m) k p v = gathered groups F m k p v || (slice_index groups m == k && F m p v)

-- no reception of a batch is too long, and each has a place below count
abbrev pub AreTurns : ℕ → List GroupReception → Turns → Type 0
AreTurns count batch turns = All IsShort batch × ArePlaces (length batch) count turns.places.items

-- what the workers from low on and below high read of the group at each place
abbrev pub read_by : List GroupReception → Turns → ℕ → ℕ → ℕ → Facts
read_by batch turns low high = place_part (is_turn turns.workers low high) batch turns.places.items (length batch)

-- through a seat of each board the facts of its group were posted besides
abbrev pub HavePosted : (ℕ → Facts) → List TableId → List Held → List Held → Type 0
HavePosted G boards before after = (share : ℕ) (F : ℕ → Facts) → AreSeats share F boards before → AreSeats share (λ k. union (F k) (G k)) boards after

-- the sheets keep what is news of each group, beside what is known of it
pub record KeepNews (known : List (List Seen)) (F : ℕ → Facts) (sheets : List (List Seen)) (n : ℕ) : Type 0 where
  pub news : ℕ → Facts
  pub are : AreSheets news sheets n
  pub alike : (k : ℕ) → k < n → AreAlikeBeyond (known_at known k) (F k) (news k)

-- through a seat of each board what is news of these facts was posted besides
pub record NewsPosted (known : List (List Seen)) (F : ℕ → Facts) (boards : List TableId) (before after : List Held) : Type 0 where
  pub news : ℕ → Facts
  pub posted : HavePosted news boards before after
  pub alike : (k : ℕ) → k < length boards → AreAlikeBeyond (known_at known k) (F k) (news k)

-- what is alike beyond the sheet at each place is alike beyond what is known of the group there
abbrev pub AreKnown : List (List Seen) → List ℕ → List (List Seen) → Type 0
AreKnown known groups sheets = (k : ℕ) → k < length groups → (F G : Facts) → AreAlikeBeyond (known_at sheets k) F G → AreAlikeBeyond (known_at known (slice_index groups k)) F G
