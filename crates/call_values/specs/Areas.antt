-- Areas: ITU-R M.493, geographical coordinates of an area call.
use Rattle.std.specs.Prelude.{ℕ, ◌≤◌}

-- a rectangle on the Mercator projection: its north-west corner in whole degrees, and its sides southwards and
-- eastwards
pub record Rectangle : Type 0 where
  pub quadrant : ℕ
  pub latitude : ℕ
  pub longitude : ℕ
  pub south : ℕ
  pub east : ℕ

-- one of four quadrants, a latitude of at most 90 degrees, a longitude of at most 180, and sides of two digits
pub record IsArea (a : Rectangle) : Type 0 where
  pub quadrant : a.quadrant ≤ 3
  pub latitude : a.latitude ≤ 90
  pub longitude : a.longitude ≤ 180
  pub south : a.south ≤ 99
  pub east : a.east ≤ 99
