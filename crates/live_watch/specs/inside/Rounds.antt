-- How a watcher goes round the boards of a batch. This project's own form.
use Rattle.std.specs.Prelude.{◌≡◌, ◌≢◌, ◌⊎◌, ℕ, ◌<◌, true, false, List, Option, Some, None, Contains, map, length, set, slice_index, slice_index_or}
use Rattle.call_values.specs.declared.calls.Call.{Call}
use Rattle.slot_evidence.specs.declared.places.Seen.{Seen}
use Rattle.evidence_board.specs.Views.{View, place_at, seen_sheet}
use Rattle.evidence_board.specs.Rule.{IsWithin}
use Rattle.evidence_board.specs.Seats.{Held}
use Rattle.receiver_pool.specs.Rows.{seat_at}
use Rattle.live_watch.specs.declared.batches.WatchedGroup.{WatchedGroup}
use Rattle.live_watch.specs.Batches.{Sight, IsSeenWith, IsReportWith, known_of}

-- what contracts see of a watched group
abbrev pub sight_of : WatchedGroup → Sight
sight_of one = record { group = one.group; seen = one.call }

-- what a watcher saw of each group
abbrev pub sights_of : List WatchedGroup → List Sight
sights_of watched = map sight_of watched

-- no group
abbrev pub nothing_watched : WatchedGroup
nothing_watched = record { group = 0; call = None; board = None; is_looked = false; posts = 0; unreported = None }

-- the watched group with this index
abbrev pub watched_at : List WatchedGroup → ℕ → WatchedGroup
watched_at watched i = slice_index_or watched i nothing_watched

-- the group's board is that at this place, or there is none
abbrev pub IsBoardOf : (groups : List ℕ) → (group : ℕ) → Option ℕ → Type 0
IsBoardOf groups group None = Contains groups group → ⊥
IsBoardOf groups group (Some k) = (k < length groups) × (slice_index groups k ≡ group)

-- after a look by which the seat of its board has this view: no call of the group was seen before
pub record LooksAt (known : List (List Seen)) (view : View) (before after : WatchedGroup) : Type 0 where
  pub group : after.group ≡ before.group
  pub board : after.board ≡ before.board
  pub unseen : before.call ≡ None
  pub report : IsReportWith (known_of known before.group) (seen_sheet view) after.call

-- one look, at the board of the group with this index
pub record HasLooked (known : List (List Seen)) (index : ℕ) (watched : List WatchedGroup) (seats : List Held) (watched_after : List WatchedGroup) (seats_after : List Held) : Type 0 where
  pub k : ℕ
  pub board : (watched_at watched index).board ≡ Some k
  pub one : WatchedGroup
  pub changed : watched_after ≡ set watched index one
  pub looks : LooksAt known (seat_at seats_after k).view (watched_at watched index) one
  pub others : (j : ℕ) → j ≢ k → seat_at seats_after j ≡ seat_at seats j
  pub grows : (p : ℕ) → p < 64 → IsWithin (place_at (seat_at seats k).view p).seen (place_at (seat_at seats_after k).view p).seen

-- or nothing changed
pub record Stays (watched : List WatchedGroup) (seats : List Held) (watched_after : List WatchedGroup) (seats_after : List Held) : Type 0 where
  pub watched_same : watched_after ≡ watched
  pub seats_same : seats_after ≡ seats

-- one look, or nothing changed
abbrev pub IsStep : (known : List (List Seen)) → (index : ℕ) → (watched : List WatchedGroup) → (seats : List Held) → (watched_after : List WatchedGroup) → (seats_after : List Held) → Type 0
IsStep known index watched seats watched_after seats_after = HasLooked known index watched seats watched_after seats_after ⊎ Stays watched seats watched_after seats_after

-- a call of a group was seen where some did begin so
abbrev pub IsCalled : (begun watched : List WatchedGroup) → ℕ → Type 0
IsCalled begun watched group = (j : ℕ) × (call : Call) × (j < length begun) × ((watched_at begun j).group ≡ group) × ((watched_at watched j).call ≡ Some call)

-- a call of the group was seen, or what the seat of its board knows reports none
abbrev pub IsJudged : (known : List (List Seen)) → (begun watched : List WatchedGroup) → (seats : List Held) → (group k : ℕ) → Type 0
IsJudged known begun watched seats group k = IsCalled begun watched group ⊎ IsReportWith (known_of known group) (seen_sheet (seat_at seats k).view) None

-- each group's board is one of so many
abbrev pub AreOnBoards : ℕ → List WatchedGroup → Type 0
AreOnBoards n watched = (i k : ℕ) → (watched_at watched i).board ≡ Some k → k < n

-- a call of it was seen, or it has no board, or somebody looked there
abbrev pub IsDone : WatchedGroup → Type 0
IsDone one = ((call : Call) × (one.call ≡ Some call)) ⊎ (one.board ≡ None) ⊎ (one.is_looked ≡ true)

-- this group is at this place, or nowhere
abbrev pub IsPlaceOf : List WatchedGroup → ℕ → ℕ → Type 0
IsPlaceOf watched place group = (place < length watched) × ((watched_at watched place).group ≡ group)

-- this group isn't among those that are watched
abbrev pub IsNoneOf : List WatchedGroup → ℕ → Type 0
IsNoneOf watched group = (i : ℕ) → i < length watched → (watched_at watched i).group ≡ group → ⊥

-- a round of looks: each group keeps its number and has its board; no call is forgotten; each call was seen on its
-- group's board; and if somebody looked for a group and saw no call of it, what the seat knows reports none
pub record IsRound (known : List (List Seen)) (groups : List ℕ) (begun : List WatchedGroup) (watched : List WatchedGroup) (seats : List Held) : Type 0 where
  pub count : length watched ≡ length begun
  pub group : (i : ℕ) → i < length begun → (watched_at watched i).group ≡ (watched_at begun i).group
  pub boards : (i : ℕ) → i < length begun → IsBoardOf groups (watched_at begun i).group (watched_at watched i).board
  pub kept : (i : ℕ) (call : Call) → i < length begun → (watched_at begun i).call ≡ Some call → (watched_at watched i).call ≡ Some call
  pub shown : (i : ℕ) (call : Call) → i < length begun → (watched_at watched i).call ≡ Some call
      → ((watched_at begun i).call ≡ Some call)
      ⊎ ((k : ℕ) × (k < length groups) × (slice_index groups k ≡ (watched_at begun i).group) × IsSeenWith (known_of known (watched_at begun i).group) (seat_at seats k).view call)
  pub looked : (i k : ℕ) → i < length begun → (watched_at watched i).is_looked ≡ true → (watched_at watched i).board ≡ Some k
      → IsJudged known begun watched seats (watched_at begun i).group k

-- such a round, at so many boards
abbrev pub IsUnderWay : (known : List (List Seen)) → ℕ → List WatchedGroup → List Held → Type 0
IsUnderWay known n watched seats = (groups : List ℕ) × (begun : List WatchedGroup) × (length groups ≡ n) × IsRound known groups begun watched seats

-- at whose end each group that has a board is judged
abbrev pub AreJudged : (known : List (List Seen)) → (begun watched : List WatchedGroup) → List Held → Type 0
AreJudged known begun watched seats =
    (i k : ℕ) → i < length begun → (watched_at watched i).board ≡ Some k → IsJudged known begun watched seats (watched_at begun i).group k
