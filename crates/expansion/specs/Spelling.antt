-- The lists of expansions: this project's profile, with the digits, the check and the ends of sequence of ITU-R M.493.
use Rattle.std.specs.Prelude.{ℕ, List, [], ◌∷◌, ◌++◌}
use Rattle.expansion.specs.declared.specifiers.TheConstants.{ENHANCED_POSITION, SPEED, COURSE}
use Rattle.dsc_symbols.specs.declared.messages.TheConstants.{NO_INFORMATION}
use Rattle.symbol_reader.specs.Digits.{eight_digits, four_digits}
use Rattle.symbol_reader.specs.Checks.{check_of}
use Rattle.call_values.specs.declared.choices.End.{End}
use Rattle.call_values.specs.Ends.{end_symbol}
use Rattle.expansion.specs.declared.parts.PartKind.{PartKind}
use Rattle.expansion.specs.declared.parts.PartKind.TheVariants.{LeftOut, NoInformation, Digits}
use Rattle.expansion.specs.declared.values.Sets.{Sets}

-- a set: its specifier and its digits, or one character of no information in their place; nothing where it is left out
abbrev pub set_symbols : ℕ → (ℕ → List ℕ) → PartKind → List ℕ
set_symbols specifier digits LeftOut = []
set_symbols specifier digits NoInformation = specifier ∷ NO_INFORMATION ∷ []
set_symbols specifier digits (Digits n) = specifier ∷ digits n

-- what the check covers: the enhanced position, the speed, the course, and the call's end of sequence
abbrev pub covered : Sets → End → List ℕ
covered x last =
    set_symbols ENHANCED_POSITION eight_digits x.enhanced
    ++ (set_symbols SPEED four_digits x.speed ++ (set_symbols COURSE four_digits x.course ++ (end_symbol last ∷ [])))

-- what the check covers, and the check
abbrev pub through_check : Sets → End → List ℕ
through_check x last = covered x last ++ (check_of (covered x last) ∷ [])

-- an expansion's whole list: the end of sequence comes twice more after the check
abbrev pub spell : Sets → End → List ℕ
spell x last = covered x last ++ (check_of (covered x last) ∷ end_symbol last ∷ end_symbol last ∷ [])
