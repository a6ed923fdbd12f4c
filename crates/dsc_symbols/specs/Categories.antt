-- Categories: ITU-R M.493, category.
use Rattle.std.specs.Prelude.{◌≡◌, ℕ, ◌⊎◌}
use Rattle.dsc_symbols.specs.declared.categories.TheConstants as categories

-- the categories, distress among them
abbrev pub IsCategory : ℕ → Type 0
IsCategory symbol =
    (symbol ≡ categories.DISTRESS) ⊎ (symbol ≡ categories.ROUTINE) ⊎ (symbol ≡ categories.SAFETY) ⊎ (symbol ≡ categories.URGENCY)
