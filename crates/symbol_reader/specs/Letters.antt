-- Sets of symbols: ITU-R M.493, digits two to a character, and its tables of symbols from 100 on.
use Rattle.std.specs.Prelude.{◌≡◌, ℕ, ◌≤◌, ◌/◌, ◌%◌, ◌⊎◌}
use Rattle.dsc_symbols.specs.declared.telecommands.TheConstants.{TEST, SHIP_POSITION}
use Rattle.dsc_symbols.specs.declared.messages.TheConstants.{NO_INFORMATION, POSITION_FOLLOWS, VHF_CHANNEL}
use Rattle.dsc_symbols.specs.Categories.{IsCategory}
use Rattle.dsc_symbols.specs.Ends.{IsEnd}
use Rattle.dsc_symbols.specs.Formats.{IsFormat}
use Rattle.dsc_symbols.specs.Natures.{IsNature}
use Rattle.dsc_symbols.specs.Telecommands.{IsFirst, IsSecond, IsComm}
use Rattle.symbol_reader.specs.declared.letters.Letter.{Letter}
use Rattle.symbol_reader.specs.declared.letters.Letter.TheVariants.{Exactly, UpTo, UpToOr, Digits, Nature, Comm, Either, OneOf, Format, Category, First, FirstToOne, Second, Field, Message, End}

-- the symbols that a letter stands for
abbrev pub Allows : Letter → ℕ → Type 0
Allows (Exactly only) x = x ≡ only
Allows (UpTo most) x = x ≤ most
Allows (UpToOr most other) x = (x ≤ most) ⊎ (x ≡ other)
Allows (Digits tens ones) x = (x / 10 ≤ tens) × (x % 10 ≤ ones)
Allows Nature x = IsNature x
Allows Comm x = IsComm x
Allows (Either one other) x = (x ≡ one) ⊎ (x ≡ other)
Allows (OneOf one other third) x = (x ≡ one) ⊎ (x ≡ other) ⊎ (x ≡ third)
Allows Format x = IsFormat x
Allows Category x = IsCategory x
Allows First x = IsFirst x
Allows FirstToOne x = (x ≡ TEST) ⊎ (x ≡ SHIP_POSITION) ⊎ IsFirst x
Allows Second x = IsSecond x
Allows Field x = (x ≤ 49) ⊎ (x ≡ VHF_CHANNEL) ⊎ (x ≡ NO_INFORMATION)
Allows Message x = (x ≡ POSITION_FOLLOWS) ⊎ (x ≤ 49) ⊎ (x ≡ VHF_CHANNEL) ⊎ (x ≡ NO_INFORMATION)
Allows End x = IsEnd x
