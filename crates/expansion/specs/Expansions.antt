-- Expansions whose sets are in their ranges: this project's profile.
use Rattle.std.specs.Prelude.{◌⊎◌}
use Rattle.expansion.specs.declared.bounds.TheConstants.{LAST_ENHANCEMENT, LAST_SPEED, LAST_COURSE}
use Rattle.expansion.specs.declared.values.Sets.{Sets}
use Rattle.expansion.specs.Parts.{IsThere, IsUpTo}

-- a set is there, and the enhanced position has eight digits, the speed four and the course less than 360.0 degrees
pub record IsExpansion (x : Sets) : Type 0 where
  pub some : IsThere x.enhanced ⊎ IsThere x.speed ⊎ IsThere x.course
  pub enhanced : IsUpTo LAST_ENHANCEMENT x.enhanced
  pub speed : IsUpTo LAST_SPEED x.speed
  pub course : IsUpTo LAST_COURSE x.course
