-- The sets of expansions can be recognized while they are read.
use Rattle.std.proofs.Common.{ℕ, ◌==◌, List, arith}
use Rattle.symbol_reader.specs.declared.letters.Letter.TheVariants.{Exactly, Either, OneOf}
use Rattle.symbol_reader.specs.inside.Languages.{Only, Then}
use Rattle.symbol_reader.proofs.Laws.{Good, then_good, only_good, choice_good}
use Rattle.symbol_reader.proofs.Steps.{letter_good}
use Rattle.expansion.specs.declared.specifiers.TheConstants.{COURSE, ENHANCED_POSITION, SPEED}
use Rattle.expansion.specs.declared.parts.PartKind.{PartKind}
use Rattle.expansion.specs.declared.parts.PartKind.TheVariants.{LeftOut}
use Rattle.expansion.specs.declared.values.Sets.{Sets}
use Rattle.expansion.specs.inside.Grammar.{Symbol, EightDigits, FourDigits, sets_of, AfterSpeed, AfterEnhanced, AfterFirst, SetWords}
use Rattle.expansion.proofs.DigitParts.{eight_good, four_good}

-- the end of sequence after a course
abbrev pub LastEnd : ℕ → Sets → Sets → List ℕ → Type 0
LastEnd last x = Then (Symbol (Exactly last)) (λ _. Only x)

pub last_end_good : (last : ℕ) (x : Sets) → Good (LastEnd last x)
last_end_good last x = then_good _ _ (letter_good (Exactly last)) (λ _ _ _. only_good x)

pub course_good : (last : ℕ) (enhanced speed : PartKind) → Good (Then (FourDigits 35) (λ course. LastEnd last (sets_of enhanced speed course)))
course_good last enhanced speed = then_good _ _ (four_good 35 (omega arith)) (λ course _ _. last_end_good last (sets_of enhanced speed course))

pub after_speed_good : (last : ℕ) (enhanced speed : PartKind) (next : ℕ) → Good (AfterSpeed last enhanced speed next)
after_speed_good last enhanced speed next =
    choice_good (next == COURSE) _ _ (λ _. course_good last enhanced speed) (λ _. only_good (sets_of enhanced speed LeftOut))

-- what follows a speed
abbrev pub CourseAndEnd : ℕ → PartKind → PartKind → Sets → List ℕ → Type 0
CourseAndEnd last enhanced speed = Then (Symbol (Either COURSE last)) (AfterSpeed last enhanced speed)

pub course_and_end_good : (last : ℕ) (enhanced speed : PartKind) → Good (CourseAndEnd last enhanced speed)
course_and_end_good last enhanced speed = then_good _ _ (letter_good (Either COURSE last)) (λ next _ _. after_speed_good last enhanced speed next)

pub speed_good : (last : ℕ) (enhanced : PartKind) → Good (Then (FourDigits 99) (CourseAndEnd last enhanced))
speed_good last enhanced = then_good _ _ (four_good 99 (omega arith)) (λ speed _ _. course_and_end_good last enhanced speed)

pub after_enhanced_good : (last : ℕ) (enhanced : PartKind) (next : ℕ) → Good (AfterEnhanced last enhanced next)
after_enhanced_good last enhanced next =
    choice_good (next == SPEED) _ _ (λ _. speed_good last enhanced) (λ _. after_speed_good last enhanced LeftOut next)

-- what follows an enhanced position
abbrev pub SpeedAndRest : ℕ → PartKind → Sets → List ℕ → Type 0
SpeedAndRest last enhanced = Then (Symbol (OneOf SPEED COURSE last)) (AfterEnhanced last enhanced)

pub speed_and_rest_good : (last : ℕ) (enhanced : PartKind) → Good (SpeedAndRest last enhanced)
speed_and_rest_good last enhanced = then_good _ _ (letter_good (OneOf SPEED COURSE last)) (λ next _ _. after_enhanced_good last enhanced next)

pub enhanced_good : (last : ℕ) → Good (Then EightDigits (SpeedAndRest last))
enhanced_good last = then_good _ _ eight_good (λ enhanced _ _. speed_and_rest_good last enhanced)

pub after_first_good : (last initial : ℕ) → Good (AfterFirst last initial)
after_first_good last initial = choice_good (initial == ENHANCED_POSITION) _ _ (λ _. enhanced_good last) (λ _. after_enhanced_good last LeftOut initial)

pub set_words_good : (last : ℕ) → Good (SetWords last)
set_words_good last = then_good _ _ (letter_good (OneOf ENHANCED_POSITION SPEED COURSE)) (λ initial _ _. after_first_good last initial)
