-- days, hours, minutes and seconds after the beginning of 1970
use Rattle.std.proofs.Common.{◌≡◌, ℕ, ◌+◌, ◌*◌, ◌<◌, ℤ, pos, negsuc, ◌+ℤ◌, ◌*ℤ◌, arith}
use Rattle.jiff.proofs.SpanFacts.{signed_arith}
use Rattle.station_lines.specs.CivilTime.{hour_of, minute_of}

-- the nanoseconds of a day, a time of that day and a part of a second
abbrev pub nanos : ℤ → ℕ → ℕ → ℕ → ℕ → ℤ
nanos day hour minute second part = day *ℤ pos 86_400_000_000_000 +ℤ pos ((hour * 3600 + minute * 60 + second) * 1_000_000_000 + part)

seconds_of : (day instant : ℤ) (hour minute second part past : ℕ) → hour < 24 → minute < 60 → second < 60 → part < 1_000_000_000
    → nanos day hour minute second part ≡ instant +ℤ pos 0 → instant ≡ pos past *ℤ pos 1_000_000_000 → (k : ℕ) × (past ≡ k * 86400 + (hour * 3600 + minute * 60 + second))
seconds_of (pos k) instant hour minute second part past a b c d e f = (k, omega (arith, signed_arith, e, f))
seconds_of (negsuc k) instant hour minute second part past a b c d e f = absurd (omega (arith, signed_arith, e, f))

-- a time of day is the hour and the minute of its second
pub time_of_day : (day instant : ℤ) (hour minute second part past : ℕ) → hour < 24 → minute < 60 → second < 60 → part < 1_000_000_000
    → nanos day hour minute second part ≡ instant +ℤ pos 0 → instant ≡ pos past *ℤ pos 1_000_000_000 → (hour ≡ hour_of past) × (minute ≡ minute_of past)
time_of_day day instant hour minute second part past a b c d e f =
    let s = seconds_of day instant hour minute second part past a b c d e f in
    (omega (arith, s.1), omega (arith, s.1))
