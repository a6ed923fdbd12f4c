-- The time of day in UTC, by seconds after the beginning of 1970: this project's profile.
use Rattle.std.specs.Prelude.{ℕ, ◌+◌, ◌/◌, ◌%◌}

-- the second of the moment so many milliseconds after a base
abbrev pub second_of : (base : ℕ) → (at : ℕ) → ℕ
second_of base at = base + at / 1000

-- the hour of the day
abbrev pub hour_of : ℕ → ℕ
hour_of second = (second / 3600) % 24

-- the minute of the hour
abbrev pub minute_of : ℕ → ℕ
minute_of second = (second / 60) % 60
