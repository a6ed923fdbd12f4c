-- Format specifiers: ITU-R M.493, format specifier.
use Rattle.std.specs.Prelude.{◌≡◌, ℕ, ◌⊎◌}
use Rattle.dsc_symbols.specs.declared.formats.TheConstants as formats

-- the format specifiers that begin calls
abbrev pub IsFormat : ℕ → Type 0
IsFormat symbol =
    (symbol ≡ formats.DISTRESS) ⊎ (symbol ≡ formats.ALL_SHIPS) ⊎ (symbol ≡ formats.AREA) ⊎ (symbol ≡ formats.GROUP)
    ⊎ (symbol ≡ formats.INDIVIDUAL)
