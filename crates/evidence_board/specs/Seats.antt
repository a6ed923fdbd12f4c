-- A seat of a board: this project's profile.
use Rattle.std.specs.Prelude.{◌≡◌, ℕ, ◌<◌, ◌≤◌, length}
use Rattle.atomic_table.specs.Seated.{TableId}
use Rattle.slot_evidence.specs.TwoNumbers.{AreInOrder}
use Rattle.evidence_board.specs.Views.{Reach, View, place_at}
use Rattle.evidence_board.specs.Rule.{IsWithin}

-- a seat: of which board's table it is, and what it knows
pub record Held : Type 0 where
  pub table : TableId
  pub view : View

-- no symbol, or a least and a greatest one, which may be one
abbrev pub IsResting : Reach → Type 0
IsResting reach = AreInOrder reach.least reach.past

-- at each place what was posted, and what was posted or loaded, is no symbol, or a least and a greatest one
pub record IsAtRest (view : View) : Type 0 where
  pub given : (p : ℕ) → p < 64 → IsResting (place_at view p).given
  pub seen : (p : ℕ) → p < 64 → IsResting (place_at view p).seen

-- a seat between two calls has a share, knows of 64 places, and is at rest; what it posted it saw
pub record IsSeated (view : View) : Type 0 where
  pub alive : 1 ≤ view.share
  pub size : length view.places ≡ 64
  pub rest : IsAtRest view
  pub within : (p : ℕ) → p < 64 → IsWithin (place_at view p).given (place_at view p).seen
