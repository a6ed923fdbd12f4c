-- Positions: ITU-R M.493, distress coordinates.
use Rattle.std.specs.Prelude.{◌≡◌, ℕ, ◌<◌, ◌≤◌, ◌⊎◌, Option, Some, None}
use Rattle.call_values.specs.declared.positions.Fix.{Fix}

-- degrees and minutes of an arc of at most so many degrees
abbrev pub IsArc : ℕ → ℕ → ℕ → Type 0
IsArc degrees minutes most = (minutes < 60) × ((degrees < most) ⊎ ((degrees ≡ most) × (minutes ≡ 0)))

-- one of four quadrants, a latitude of at most 90 degrees and a longitude of at most 180
pub record IsFix (f : Fix) : Type 0 where
  pub quadrant : f.quadrant ≤ 3
  pub latitude : IsArc f.lat_deg f.lat_min 90
  pub longitude : IsArc f.lon_deg f.lon_min 180

-- a place, or none that is known
abbrev pub IsPosition : Option Fix → Type 0
IsPosition (Some f) = IsFix f
IsPosition None = Unit {0}
