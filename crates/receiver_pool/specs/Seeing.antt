-- What somebody saw of the boards of a batch beside its workers: this project's profile.
use Rattle.std.specs.Prelude.{◌≡◌, ℕ, ◌<◌, List, length, slice_index}
use Rattle.slot_evidence.specs.declared.places.Seen.{Seen}
use Rattle.slot_evidence.specs.Facts.{Facts}
use Rattle.slot_evidence.specs.Sheet.{IsEnds, seen_at}
use Rattle.evidence_board.specs.Views.{View, place_at, reach_of}
use Rattle.evidence_board.specs.Rule.{IsWithin}
use Rattle.evidence_board.specs.Seats.{Held}
use Rattle.receiver_pool.specs.declared.group_entries.GroupReception.{GroupReception}
use Rattle.receiver_pool.specs.Groups.{facts_of_group, groups_of}
use Rattle.receiver_pool.specs.Rows.{seat_at}

-- a seat saw no more than these facts show: at each place no symbol below their least one, and none above their
-- greatest
pub record SawWithin (F : Facts) (view : View) : Type 0 where
  pub sheet : List Seen
  pub ends : IsEnds F sheet
  pub within : (p : ℕ) → p < 64 → IsWithin (place_at view p).seen (reach_of (seen_at sheet p))

-- somebody went round the boards of a batch's groups with a seat of each: no seat saw more than the batch shows of its
-- group, and this holds of the groups and the seats
pub record HasGoneRound (batch : List GroupReception) (Saw : List ℕ → List Held → Type 0) : Type 0 where
  pub seats : List Held
  pub count : length seats ≡ length (groups_of batch)
  pub each : (k : ℕ) → k < length (groups_of batch) → SawWithin (facts_of_group batch (slice_index (groups_of batch) k)) (seat_at seats k).view
  pub saw : Saw (groups_of batch) seats
