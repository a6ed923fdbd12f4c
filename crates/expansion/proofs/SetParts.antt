-- Expansions by their sets.
use Rattle.std.proofs.Common.{◌≡◌, ℕ, ◌⊎◌, inl, inr, true, false, List, [], ◌∷◌, ◌++◌, refl, sym, subst, arith}
use Rattle.std.proofs.lemmas.Bool.{eqb-true}
use Rattle.symbol_reader.specs.Digits.{eight_digits, four_digits}
use Rattle.symbol_reader.proofs.Laws.{Good, Alike, alike_good}
use Rattle.symbol_reader.proofs.Steps.{one_then, spelled_then}
use Rattle.call_values.specs.declared.choices.End.{End}
use Rattle.call_values.specs.Ends.{end_symbol}
use Rattle.expansion.specs.declared.specifiers.TheConstants.{COURSE, ENHANCED_POSITION, SPEED}
use Rattle.expansion.specs.declared.parts.PartKind.{PartKind}
use Rattle.expansion.specs.declared.parts.PartKind.TheVariants.{LeftOut, NoInformation, Digits}
use Rattle.expansion.specs.declared.values.Sets.{Sets}
use Rattle.expansion.specs.Parts.{IsThere, IsUpTo}
use Rattle.expansion.specs.Expansions.{IsExpansion}
use Rattle.expansion.specs.Spelling.{set_symbols, covered}
use Rattle.expansion.specs.inside.Grammar.{told_symbols, sets_of, AfterSpeed, AfterEnhanced, SetWords, CheckedSets}
use Rattle.expansion.proofs.SetGoods.{CourseAndEnd, SpeedAndRest, set_words_good}

-- a symbol that is no specifier of a set
pub record IsApart (last : ℕ) : Type 0 where
  pub enhanced : last ≡ ENHANCED_POSITION → ⊥
  pub speed : last ≡ SPEED → ⊥
  pub course : last ≡ COURSE → ⊥

pub ends_apart : (e : End) → IsApart (end_symbol e)
ends_apart e = grind arith

abbrev course_and : PartKind → ℕ → List ℕ
course_and course last = set_symbols COURSE four_digits course ++ (last ∷ [])

abbrev speed_and : PartKind → PartKind → ℕ → List ℕ
speed_and speed course last = set_symbols SPEED four_digits speed ++ course_and course last

-- the course that comes after this symbol, and the list of both
record CourseTold (last : ℕ) (enhanced speed : PartKind) (next : ℕ) (x : Sets) (l : List ℕ) : Type 0 where
  course : PartKind
  range : IsUpTo 3599 course
  some : (next ≡ COURSE) → IsThere course
  value : x ≡ sets_of enhanced speed course
  list : next ∷ l ≡ course_and course last

-- the speed and the course that come after this symbol
record SpeedTold (last : ℕ) (enhanced : PartKind) (next : ℕ) (x : Sets) (l : List ℕ) : Type 0 where
  speed : PartKind
  course : PartKind
  speed_range : IsUpTo 9999 speed
  course_range : IsUpTo 3599 course
  some : (next ≡ SPEED) ⊎ (next ≡ COURSE) → IsThere speed ⊎ IsThere course
  value : x ≡ sets_of enhanced speed course
  list : next ∷ l ≡ speed_and speed course last

to_sets : (e : End) (x : Sets) (word : List ℕ) → SetWords (end_symbol e) x word → CheckedSets e x word
to_sets e x word p = grind arith

-- the rest after the specifier of a course that is there
course_there : (last : ℕ) (enhanced speed course : PartKind) → IsThere course → IsUpTo 3599 course
    → AfterSpeed last enhanced speed COURSE (sets_of enhanced speed course) (told_symbols four_digits course ++ (last ∷ []))
course_there last enhanced speed course h k = grind arith

from_course : (last : ℕ) (enhanced speed course : PartKind) → IsApart last → IsUpTo 3599 course
    → CourseAndEnd last enhanced speed (sets_of enhanced speed course) (course_and course last)
from_course last enhanced speed LeftOut a k = one_then last (inr refl) (record {
  yes = λ t. absurd (a.course (eqb-true last COURSE t));
  no = λ _. record { value = refl; list = refl };
})
from_course last enhanced speed NoInformation a k = one_then COURSE (inl refl) (course_there last enhanced speed NoInformation tt k)
from_course last enhanced speed (Digits n) a k = one_then COURSE (inl refl) (course_there last enhanced speed (Digits n) tt k)

-- the rest after the specifier of a speed that is there
speed_there : (last : ℕ) (enhanced speed course : PartKind) → IsApart last → IsThere speed → IsUpTo 9999 speed → IsUpTo 3599 course
    → AfterEnhanced last enhanced SPEED (sets_of enhanced speed course) (told_symbols four_digits speed ++ course_and course last)
speed_there last enhanced speed course a h k m = record {
  yes = λ _. spelled_then speed (course_and course last) (h, k) (from_course last enhanced speed course a m);
  no = λ (t : true ≡ false). absurd (cc);
}

-- what may follow a speed may follow an enhanced position alone
no_speed : (last : ℕ) (enhanced : PartKind) (x : Sets) (word : List ℕ) → IsApart last → CourseAndEnd last enhanced LeftOut x word
    → SpeedAndRest last enhanced x word
no_speed last enhanced x word a p = grind arith

from_speed : (last : ℕ) (enhanced speed course : PartKind) → IsApart last → IsUpTo 9999 speed → IsUpTo 3599 course
    → SpeedAndRest last enhanced (sets_of enhanced speed course) (speed_and speed course last)
from_speed last enhanced LeftOut course a k m =
    no_speed last enhanced (sets_of enhanced LeftOut course) (course_and course last) a (from_course last enhanced LeftOut course a m)
from_speed last enhanced NoInformation course a k m = one_then SPEED (inl refl) (speed_there last enhanced NoInformation course a tt k m)
from_speed last enhanced (Digits n) course a k m = one_then SPEED (inl refl) (speed_there last enhanced (Digits n) course a tt k m)

from_enhanced : (last : ℕ) (enhanced speed course : PartKind) → IsApart last → IsThere enhanced → IsUpTo 99999999 enhanced → IsUpTo 9999 speed → IsUpTo 3599 course
    → SetWords last (sets_of enhanced speed course) (ENHANCED_POSITION ∷ (told_symbols eight_digits enhanced ++ speed_and speed course last))
from_enhanced last enhanced speed course a h k m n = one_then ENHANCED_POSITION (inl refl) (record {
  yes = λ _. spelled_then enhanced (speed_and speed course last) (h, k) (from_speed last enhanced speed course a m n);
  no = λ (t : true ≡ false). absurd (cc);
})

-- a list that begins with a speed or a course
from_later : (last : ℕ) (speed course : PartKind) → IsApart last → IsThere speed ⊎ IsThere course → IsUpTo 9999 speed → IsUpTo 3599 course
    → SetWords last (sets_of LeftOut speed course) (speed_and speed course last)
from_later last LeftOut LeftOut a h k m = absurd (elim h [ inl f ↦ f | inr f ↦ f ])
from_later last LeftOut NoInformation a h k m = one_then COURSE (inr (inr refl)) (record {
  yes = λ (t : false ≡ true). absurd (cc);
  no = λ _. record { yes = λ (t : false ≡ true). absurd (cc); no = λ _. course_there last LeftOut LeftOut NoInformation tt m };
})
from_later last LeftOut (Digits n) a h k m = one_then COURSE (inr (inr refl)) (record {
  yes = λ (t : false ≡ true). absurd (cc);
  no = λ _. record { yes = λ (t : false ≡ true). absurd (cc); no = λ _. course_there last LeftOut LeftOut (Digits n) tt m };
})
from_later last NoInformation course a h k m = one_then SPEED (inr (inl refl)) (record {
  yes = λ (t : false ≡ true). absurd (cc);
  no = λ _. speed_there last LeftOut NoInformation course a tt k m;
})
from_later last (Digits n) course a h k m = one_then SPEED (inr (inl refl)) (record {
  yes = λ (t : false ≡ true). absurd (cc);
  no = λ _. speed_there last LeftOut (Digits n) course a tt k m;
})

from_covered : (e : End) (enhanced speed course : PartKind) → IsExpansion (sets_of enhanced speed course)
    → SetWords (end_symbol e) (sets_of enhanced speed course) (covered (sets_of enhanced speed course) e)
from_covered e LeftOut speed course h =
    from_later (end_symbol e) speed course (ends_apart e) (elim h.some [ inl f ↦ absurd f | inr f ↦ f ]) h.speed h.course
from_covered e NoInformation speed course h = from_enhanced (end_symbol e) NoInformation speed course (ends_apart e) tt h.enhanced h.speed h.course
from_covered e (Digits n) speed course h = from_enhanced (end_symbol e) (Digits n) speed course (ends_apart e) tt h.enhanced h.speed h.course

from_sets : (e : End) (x : Sets) (word : List ℕ) → CheckedSets e x word → SetWords (end_symbol e) x word
from_sets e x word p =
    subst (λ w. SetWords (end_symbol e) x w) (sym p.list) (from_covered e x.enhanced x.speed x.course p.is_lawful)

-- the grammar of sets spells what the checks of expansions cover
pub sets_alike : (e : End) → Alike (SetWords (end_symbol e)) (CheckedSets e)
sets_alike e = record { to = to_sets e; back = from_sets e }

-- the sets of an expansion read back up to its check
pub checked_sets_good : (e : End) → Good (CheckedSets e)
checked_sets_good e = alike_good _ _ (sets_alike e) (set_words_good (end_symbol e))
