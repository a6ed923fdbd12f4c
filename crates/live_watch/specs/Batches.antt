-- What a watcher of a batch saw beside the workers: this project's profile.
use Rattle.std.specs.Prelude.{◌≡◌, ◌⊎◌, ℕ, ◌<◌, List, [], Option, Some, None, Contains, map, length, slice_index, slice_index_or}
use Rattle.call_values.specs.declared.calls.Call.{Call}
use Rattle.slot_evidence.specs.declared.places.Seen.{Seen}
use Rattle.slot_evidence.specs.Facts.{Facts, union}
use Rattle.slot_evidence.specs.Sheet.{IsEnds, facts_in}
use Rattle.evidence_board.specs.Views.{View, place_at, seen_sheet}
use Rattle.evidence_board.specs.Rule.{IsWithin}
use Rattle.evidence_board.specs.Seats.{Held}
use Rattle.receiver_pool.specs.declared.group_entries.GroupReception.{GroupReception}
use Rattle.receiver_pool.specs.Groups.{facts_of_group, groups_of}
use Rattle.receiver_pool.specs.Rows.{seat_at}
use Rattle.receiver_pool.specs.Seeing.{SawWithin}
use Rattle.live_watch.specs.Told.{IsReport}

-- a group that a watcher watches, by its number, and the call that it saw of the group, if any
pub record Sight : Type 0 where
  pub group : ℕ
  pub seen : Option Call

-- this group is watched
abbrev pub IsUnderWatch : List Sight → ℕ → Type 0
IsUnderWatch sights group = (seen : Option Call) × Contains sights (record { group = group; seen = seen })

-- this call was seen of the group
abbrev pub HasSeen : List Sight → ℕ → Call → Type 0
HasSeen sights group call = Contains sights (record { group = group; seen = Some call })

-- what a watcher saw of this group: this call, or none, where it isn't watched, or is watched and none was seen
abbrev pub IsSightOf : List Sight → ℕ → Option Call → Type 0
IsSightOf sights group None = (IsUnderWatch sights group → ⊥) ⊎ Contains sights (record { group = group; seen = None })
IsSightOf sights group (Some call) = HasSeen sights group call

-- what a look showed reports this, a call or none, together with the facts that were known
abbrev pub IsReportWith : List Seen → List Seen → Option Call → Type 0
IsReportWith known shown call = (F : Facts) → IsEnds F known → IsReport (union F (facts_in shown)) call

-- a call was seen: a look reported it, after which its seat knew what it knows now or less
pub record IsSeenWith (known : List Seen) (view : View) (call : Call) : Type 0 where
  pub look : View
  pub within : (p : ℕ) → p < 64 → IsWithin (place_at look p).seen (place_at view p).seen
  pub report : IsReportWith known (seen_sheet look) (Some call)

-- what was known of a group, by its number
abbrev pub known_of : List (List Seen) → ℕ → List Seen
known_of known group = slice_index_or known group []

-- a watcher went round the boards of these groups with these seats: it watches the same groups as before; it forgot no
-- call; each new call is of its group's own board; and if a watched group has a board, the watcher saw a call of it, or
-- what its seat knows reports none
pub record WentRound (before after : List Sight) (known : List (List Seen)) (groups : List ℕ) (seats : List Held) : Type 0 where
  pub same : map (λ sight. sight.group) after ≡ map (λ sight. sight.group) before
  pub kept : (group : ℕ) (call : Call) → HasSeen before group call → HasSeen after group call
  pub shown : (group : ℕ) (call : Call) → HasSeen after group call
      → HasSeen before group call ⊎ ((k : ℕ) × (k < length groups) × (slice_index groups k ≡ group) × IsSeenWith (known_of known group) (seat_at seats k).view call)
  pub looked : (group : ℕ) → IsUnderWatch after group → Contains groups group
      → ((call : Call) × HasSeen after group call)
      ⊎ ((k : ℕ) × (k < length groups) × (slice_index groups k ≡ group) × IsReportWith (known_of known group) (seen_sheet (seat_at seats k).view) None)

-- the same of a batch, of whose groups no seat saw more than the batch shows
pub record HasWatched (before after : List Sight) (known : List (List Seen)) (batch : List GroupReception) : Type 0 where
  pub same : map (λ sight. sight.group) after ≡ map (λ sight. sight.group) before
  pub kept : (group : ℕ) (call : Call) → HasSeen before group call → HasSeen after group call
  pub shown : (group : ℕ) (call : Call) → HasSeen after group call
      → HasSeen before group call ⊎ ((view : View) × SawWithin (facts_of_group batch group) view × IsSeenWith (known_of known group) view call)
  pub looked : (group : ℕ) → IsUnderWatch after group → Contains (groups_of batch) group
      → ((call : Call) × HasSeen after group call)
      ⊎ ((view : View) × SawWithin (facts_of_group batch group) view × IsReportWith (known_of known group) (seen_sheet view) None)
