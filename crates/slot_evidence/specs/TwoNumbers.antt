-- What a sheet says of a place by two numbers, its least symbol and the number after its greatest: this project's
-- profile.
use Rattle.std.specs.Prelude.{◌≡◌, ℕ, zero, suc, ◌+◌, ◌<◌, ◌≤◌, ◌==◌, min, max, if◌then◌else◌}
use Rattle.slot_evidence.specs.declared.places.Seen.{Seen}
use Rattle.slot_evidence.specs.declared.places.Seen.TheVariants as seen

-- what the least and the greatest symbol say of a place
abbrev pub span_seen : ℕ → ℕ → Seen
span_seen least greatest = if least == greatest then seen.One least else seen.Differ least greatest

-- what the least symbol and the number after the greatest say of a place; the latter is 0 where no symbol was shown
abbrev pub seen_between : ℕ → ℕ → Seen
seen_between least zero = seen.None
seen_between least (suc greatest) = span_seen least greatest

-- the least symbol, 128 where none was shown
abbrev pub least_of : Seen → ℕ
least_of seen.None = 128
least_of (seen.One v) = v
least_of (seen.Differ least greatest) = least

-- the number after the greatest symbol, 0 where none was shown
abbrev pub past_of : Seen → ℕ
past_of seen.None = 0
past_of (seen.One v) = suc v
past_of (seen.Differ least greatest) = suc greatest

-- what is kept of a place with one symbol more
abbrev pub seen_with : Seen → ℕ → Seen
seen_with seen symbol = seen_between (min (least_of seen) symbol) (max (past_of seen) (symbol + 1))

-- the two numbers of a place are in order
abbrev pub AreInOrder : ℕ → ℕ → Type 0
AreInOrder least zero = least ≡ 128
AreInOrder least (suc greatest) = (least ≤ greatest) × (greatest < 128)
