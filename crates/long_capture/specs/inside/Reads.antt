-- How a capture holds a stream: its last 1,600 elements, and how many leads after the decided ones are known not to be
-- phased. This project's own form.
use Rattle.std.specs.Prelude.{◌≡◌, ℕ, ◌+◌, ◌<◌, ◌≤◌, true, false, List, length, slice_index_or, Option, Some, None}
use Rattle.ten_unit.specs.declared.character.Element.{Element}
use Rattle.ten_unit.specs.declared.character.Element.TheVariants.{Lost}
use Rattle.phasing.specs.Origin.{is_phased}
use Rattle.phasing.specs.inside.Places.{element_at}
use Rattle.phasing.specs.declared.reception.TheConstants.{LEAD_OF_FIRST}
use Rattle.long_capture.specs.declared.bounds.TheConstants.{DECIDING, SEARCHED_AHEAD, UNDECIDED, WINDOW}
use Rattle.long_capture.specs.declared.scans.Scan.{Scan}
use Rattle.long_capture.specs.declared.starts.Start.{Start}
use Rattle.long_capture.specs.Told.{IsStart}

-- the window has the 1,600 elements of the stream from a place on
pub record IsWindow (window : List Element) (e : List Element) (place : ℕ) : Type 0 where
  pub long : length window ≡ WINDOW
  pub same : (k : ℕ) → k < WINDOW → slice_index_or window k Lost ≡ element_at e (place + k)

-- the window's first phased index after index 0, or one past those that decide its facts
pub record IsNextIndex (window : List Element) (next : ℕ) : Type 0 where
  pub from : 1 ≤ next
  pub within : next ≤ WINDOW
  pub phased : next < SEARCHED_AHEAD → is_phased window (next + LEAD_OF_FIRST) ≡ true
  pub none : (k : ℕ) → 1 ≤ k → k < next → k < SEARCHED_AHEAD → is_phased window (k + LEAD_OF_FIRST) ≡ false

-- so many leads from one on are not phased
abbrev pub IsQuietFor : List Element → ℕ → ℕ → Type 0
IsQuietFor e lead count = (k : ℕ) → k < count → is_phased e (lead + k) ≡ false

-- a look at a lead answers its start, or that it is none, and how many leads after it are not phased
abbrev pub Looks : List Element → ℕ → Option Start → ℕ → Type 0
Looks e lead None quiet = IsQuietFor e lead (quiet + 1)
Looks e lead (Some start) quiet = IsStart e lead start × IsQuietFor e (lead + 1) quiet

-- it has read so many elements of the stream, and lost ones past its end
pub record Reads (scan : Scan) (e : List Element) (count : ℕ) : Type 0 where
  pub seen : scan.seen ≡ count
  pub long : length scan.window ≡ WINDOW
  pub window : (k place : ℕ) → k < WINDOW → place + DECIDING ≡ count + k → slice_index_or scan.window k Lost ≡ element_at e place
  pub quiet : (k lead : ℕ) → k < scan.quiet → lead + UNDECIDED ≡ count + k → is_phased e lead ≡ false
  pub early : count < DECIDING → count + scan.quiet ≡ UNDECIDED
