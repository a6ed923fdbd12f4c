-- Which stream a capture stands for, and how far it has decided its starts: this project's profile.
use Rattle.std.specs.Prelude.{◌≡◌, ℕ, ◌+◌, ◌-◌, ◌≤◌, List, ◌++◌, length}
use Rattle.ten_unit.specs.declared.character.Element.{Element}
use Rattle.long_capture.specs.declared.bounds.TheConstants.{TAIL, UNDECIDED}
use Rattle.long_capture.specs.declared.captures.Capture.{Capture}
use Rattle.long_capture.specs.inside.Reads.{Reads}

-- so many elements were taken
abbrev pub taken : Capture → ℕ
taken capture = capture.scan.seen - capture.lost

-- so many elements of a stream decide the leads below this one: those of the origins that are at least 1,600 elements
-- back
abbrev pub decided : ℕ → ℕ
decided count = count - UNDECIDED

-- the leads below this one are decided
abbrev pub reached : Capture → ℕ
reached capture = decided capture.scan.seen

-- at most so many starts may come yet of a stream that has ended
abbrev pub left : Capture → ℕ
left capture = TAIL - capture.lost

-- the stream has not ended
abbrev pub IsOpen : Capture → Type 0
IsOpen capture = capture.lost ≡ 0

-- it has taken these elements, and its stream may go on with any others
pub record StandsFor (capture : Capture) (e : List Element) : Type 0 where
  pub going : IsOpen capture
  pub count : taken capture ≡ length e
  pub far : reached capture ≡ decided (length e)
  pub reads : (more : List Element) → Reads capture.scan (e ++ more) (length e)

-- it has taken these elements, and its stream has ended
pub record Ending (capture : Capture) (e : List Element) : Type 0 where
  pub some : capture.lost ≤ TAIL
  pub far : decided (length e) ≤ reached capture
  pub reads : Reads capture.scan e (length e + capture.lost)
