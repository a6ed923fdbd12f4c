-- The grammar of expansions, each symbol that parts two of them by itself: this project's profile.
use Rattle.std.specs.Prelude.{ℕ, ◌+◌, ◌*◌, ◌==◌, List, [], ◌∷◌}
use Rattle.expansion.specs.declared.bounds.TheConstants.{LAST_ENHANCEMENT}
use Rattle.expansion.specs.declared.specifiers.TheConstants.{ENHANCED_POSITION, SPEED, COURSE}
use Rattle.dsc_symbols.specs.declared.messages.TheConstants.{NO_INFORMATION}
use Rattle.symbol_reader.specs.declared.letters.Letter.{Letter}
use Rattle.symbol_reader.specs.declared.letters.Letter.TheVariants.{Exactly, Either, OneOf}
use Rattle.symbol_reader.specs.Letters.{Allows}
use Rattle.symbol_reader.specs.Digits.{eight_digits, four_digits}
use Rattle.symbol_reader.specs.inside.Languages.{One, Only, Then, Choice, Spelled}
use Rattle.call_values.specs.declared.choices.End.{End}
use Rattle.expansion.specs.declared.parts.PartKind.{PartKind}
use Rattle.expansion.specs.declared.parts.PartKind.TheVariants.{LeftOut, NoInformation, Digits}
use Rattle.expansion.specs.declared.values.Sets.{Sets}
use Rattle.expansion.specs.Parts.{IsThere, IsUpTo}
use Rattle.expansion.specs.Expansions.{IsExpansion}
use Rattle.expansion.specs.Spelling.{covered}

-- a symbol of this letter
abbrev pub Symbol : Letter → ℕ → List ℕ → Type 0
Symbol letter = One (Allows letter)

-- a set that is there, its digits at most so much
abbrev pub IsFilled : ℕ → PartKind → Type 0
IsFilled most part = IsThere part × IsUpTo most part

-- what comes after the specifier of a set
abbrev pub told_symbols : (ℕ → List ℕ) → PartKind → List ℕ
told_symbols digits LeftOut = []
told_symbols digits NoInformation = NO_INFORMATION ∷ []
told_symbols digits (Digits n) = digits n

-- eight digits, or no information
abbrev pub EightDigits : PartKind → List ℕ → Type 0
EightDigits = Spelled (IsFilled LAST_ENHANCEMENT) (told_symbols eight_digits)

-- four digits, the first two at most so much, or no information
abbrev pub FourDigits : ℕ → PartKind → List ℕ → Type 0
FourDigits most = Spelled (IsFilled (100 * most + 99)) (told_symbols four_digits)

-- the number whose eight digits are in these four characters
abbrev pub eight_of : ℕ → ℕ → ℕ → ℕ → ℕ
eight_of a b c d = ((a * 100 + b) * 100 + c) * 100 + d

-- the three sets of an expansion
abbrev pub sets_of : PartKind → PartKind → PartKind → Sets
sets_of enhanced speed course = record { enhanced = enhanced; speed = speed; course = course }

-- what follows the course's specifier or the end of sequence, after the enhanced position and the speed
abbrev pub AfterSpeed : ℕ → PartKind → PartKind → ℕ → Sets → List ℕ → Type 0
AfterSpeed last enhanced speed next =
    Choice (next == COURSE)
    (Then (FourDigits 35) (λ course. Then (Symbol (Exactly last)) (λ _. Only (sets_of enhanced speed course))))
    (Only (sets_of enhanced speed LeftOut))

-- what follows a later specifier or the end of sequence, after the enhanced position
abbrev pub AfterEnhanced : ℕ → PartKind → ℕ → Sets → List ℕ → Type 0
AfterEnhanced last enhanced next =
    Choice (next == SPEED)
    (Then (FourDigits 99) (λ speed. Then (Symbol (Either COURSE last)) (AfterSpeed last enhanced speed)))
    (AfterSpeed last enhanced LeftOut next)

-- what follows the first specifier
abbrev pub AfterFirst : ℕ → ℕ → Sets → List ℕ → Type 0
AfterFirst last initial =
    Choice (initial == ENHANCED_POSITION)
    (Then EightDigits (λ enhanced. Then (Symbol (OneOf SPEED COURSE last)) (AfterEnhanced last enhanced)))
    (AfterEnhanced last LeftOut initial)

-- the sets and the end of sequence
abbrev pub SetWords : ℕ → Sets → List ℕ → Type 0
SetWords last = Then (Symbol (OneOf ENHANCED_POSITION SPEED COURSE)) (AfterFirst last)

-- what the check covers of an expansion with this end of sequence
abbrev pub CheckedSets : End → Sets → List ℕ → Type 0
CheckedSets last = Spelled IsExpansion (λ x. covered x last)
