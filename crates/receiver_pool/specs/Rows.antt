-- A row of boards, and a seat of each: this project's profile.
use Rattle.std.specs.Prelude.{◌≡◌, ℕ, ◌<◌, ◌≤◌, List, [], length, slice_index_or}
use Rattle.atomic_table.specs.Seated.{TableId}
use Rattle.slot_evidence.specs.Facts.{Facts, no_facts}
use Rattle.slot_evidence.specs.Sheet.{IsEnds}
use Rattle.evidence_board.specs.Views.{spent, given_sheet, seen_sheet}
use Rattle.evidence_board.specs.Seats.{Held}

-- what stands for a board where there is none
abbrev pub no_table : TableId
no_table = record { words = 0; slots = 0; views_name = 0; atom = 0; block = 0; offset = 0; slot_names = [] }

-- what stands for a seat where there is none
abbrev pub no_seat : Held
no_seat = record { table = no_table; view = spent }

-- the board with this number
abbrev pub table_at : List TableId → ℕ → TableId
table_at boards k = slice_index_or boards k no_table

-- the seat with this number
abbrev pub seat_at : List Held → ℕ → Held
seat_at seats k = slice_index_or seats k no_seat

-- a seat of this board with this share, which posted these facts
pub record IsSeatOf (board : TableId) (share : ℕ) (F : Facts) (seat : Held) : Type 0 where
  pub table : seat.table ≡ board
  pub amount : seat.view.share ≡ share
  pub ends : IsEnds F (given_sheet seat.view)

-- a seat of each board, with one share, which posted the facts of its group
pub record AreSeats (share : ℕ) (F : ℕ → Facts) (boards : List TableId) (seats : List Held) : Type 0 where
  pub count : length seats ≡ length boards
  pub each : (k : ℕ) → k < length boards → IsSeatOf (table_at boards k) share (F k) (seat_at seats k)

-- there is a seat of each board, with one share that is large enough
pub record Sit (least : ℕ) (boards : List TableId) (seats : List Held) : Type 0 where
  pub share : ℕ
  pub enough : least ≤ share
  pub facts : ℕ → Facts
  pub are_seats : AreSeats share facts boards seats

-- the seats are as before: each has its board, its share and what was posted through it
abbrev pub AreAsBefore : List TableId → List Held → List Held → Type 0
AreAsBefore boards before after = (share : ℕ) (F : ℕ → Facts) → AreSeats share F boards before → AreSeats share F boards after

-- no seat of so many boards has posted or loaded anything
abbrev pub HaveSeenNothing : ℕ → List Held → Type 0
HaveSeenNothing n seats = (k : ℕ) → k < n → IsEnds no_facts (seen_sheet (seat_at seats k).view)
