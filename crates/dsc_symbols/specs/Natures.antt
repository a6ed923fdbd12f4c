-- Natures of distress: ITU-R M.493, nature of distress.
use Rattle.std.specs.Prelude.{ℕ}
use Rattle.dsc_symbols.specs.declared.sets.TheConstants.{NATURES}
use Rattle.dsc_symbols.specs.Ranges.{IsAmong}

-- the natures of distress: fire or explosion, .., man overboard; and EPIRB emission
abbrev pub IsNature : ℕ → Type 0
IsNature = IsAmong NATURES
