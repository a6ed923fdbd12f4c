-- Moments in milliseconds: this project's profile.
use Rattle.std.specs.Prelude.{ℕ, ◌-◌, Bool, nat_lt, nat_le, Option, Some, None, if◌then◌else◌}
use Rattle.traffic_rules.specs.declared.refusals.StationRefusal.{StationRefusal}
use Rattle.traffic_rules.specs.declared.refusals.StationRefusal.TheVariants.{TimeBack}

-- at least this wait has passed from one moment to a later one
abbrev pub has_passed : (wait from to : ℕ) → Bool
has_passed wait from to = nat_le wait (to - from)

-- an event is refused where its moment is before the last accepted one
abbrev pub time_back : (last given : ℕ) → Option StationRefusal
time_back last given = if nat_lt given last then Some (TimeBack last given) else None
