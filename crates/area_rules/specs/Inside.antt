-- Positions in areas, in signed minutes of arc, north and east positive: ITU-R M.493, geographical coordinates of an
-- area call.
use Rattle.std.specs.Prelude.{ℕ, ◌+◌, ◌*◌, ◌%◌, ◌==◌, ◌&&◌, nat_lt, Bool, true, Option, Some, None, ℤ, pos, neg_ℤ, ◌-ℤ◌, int_le, if◌then◌else◌}
use Rattle.std.specs.Int.{int_rem_euclid}
use Rattle.call_values.specs.declared.positions.Fix.{Fix}
use Rattle.call_values.specs.Areas.{Rectangle}

-- minutes of arc on the positive side or on the other
abbrev pub signed : Bool → ℕ → ℤ
signed is_positive minutes = if is_positive then pos minutes else neg_ℤ (pos minutes)

-- a latitude; the first two quadrants are north
abbrev pub latitude_of : (quadrant degrees minutes : ℕ) → ℤ
latitude_of quadrant degrees minutes = signed (nat_lt quadrant 2) (60 * degrees + minutes)

-- a longitude; the first quadrant and the third are east
abbrev pub longitude_of : (quadrant degrees minutes : ℕ) → ℤ
longitude_of quadrant degrees minutes = signed (quadrant % 2 == 0) (60 * degrees + minutes)

-- a place is not north of an area's corner, and not further south of it than the southward side
abbrev pub is_at_latitude : Rectangle → Fix → Bool
is_at_latitude a f =
    let north = latitude_of a.quadrant a.latitude 0 in
    let latitude = latitude_of f.quadrant f.lat_deg f.lat_min in
    int_le latitude north && int_le (north -ℤ pos (60 * a.south)) latitude

-- a place is not further east of an area's corner, once round the earth at most, than the eastward side
abbrev pub is_at_longitude : Rectangle → Fix → Bool
is_at_longitude a f =
    let west = longitude_of a.quadrant a.longitude 0 in
    let longitude = longitude_of f.quadrant f.lon_deg f.lon_min in
    int_le (int_rem_euclid (longitude -ℤ west) (pos 21600)) (pos (60 * a.east))

-- a place is in an area
abbrev pub is_in : Rectangle → Fix → Bool
is_in a f = is_at_latitude a f && is_at_longitude a f

-- a position is in an area, and so is one that isn't known
abbrev pub is_inside : Rectangle → Option Fix → Bool
is_inside a None = true
is_inside a (Some f) = is_in a f
