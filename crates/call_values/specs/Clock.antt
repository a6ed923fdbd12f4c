-- Times of day: ITU-R M.493, hours and minutes of UTC in four digits.
use Rattle.std.specs.Prelude.{ℕ, ◌<◌, Option, Some, None}

-- an hour of the day and a minute of the hour
abbrev pub IsTimeOfDay : ℕ → ℕ → Type 0
IsTimeOfDay hour minute = (hour < 24) × (minute < 60)

-- a time of day, or none that is known
abbrev pub IsHourMinute : Option (ℕ × ℕ) → Type 0
IsHourMinute (Some t) = IsTimeOfDay t.0 t.1
IsHourMinute None = Unit {0}
