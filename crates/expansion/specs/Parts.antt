-- The sets of an expansion one by one: this project's profile.
use Rattle.std.specs.Prelude.{ℕ, ◌≤◌}
use Rattle.expansion.specs.declared.parts.PartKind.{PartKind}
use Rattle.expansion.specs.declared.parts.PartKind.TheVariants.{LeftOut, NoInformation, Digits}

-- the set is there
abbrev pub IsThere : PartKind → Type 0
IsThere LeftOut = ⊥
IsThere NoInformation = Unit {0}
IsThere (Digits n) = Unit {0}

-- where the set has digits, they are at most so much
abbrev pub IsUpTo : ℕ → PartKind → Type 0
IsUpTo most LeftOut = Unit {0}
IsUpTo most NoInformation = Unit {0}
IsUpTo most (Digits n) = n ≤ most
