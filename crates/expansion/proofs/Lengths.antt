-- How long the lists of expansions are, and that their symbols are characters.
use Rattle.std.proofs.Common.{◌≡◌, ℕ, ◌+◌, ◌<◌, ◌≤◌, ◌⊎◌, inl, inr, List, [], ◌∷◌, ◌++◌, length, refl, length-append, arith}
use Rattle.symbol_reader.specs.Digits.{eight_digits, four_digits}
use Rattle.symbol_reader.specs.Checks.{check_of}
use Rattle.symbol_reader.proofs.Characters.{AreCharacters, both, of_eight, of_four, of_check}
use Rattle.symbol_reader.proofs.Digits.{length-eight}
use Rattle.call_values.specs.declared.choices.End.{End}
use Rattle.call_values.specs.Ends.{end_symbol}
use Rattle.call_values.proofs.PublicLaws.{end_small}
use Rattle.expansion.specs.declared.specifiers.TheConstants.{COURSE, ENHANCED_POSITION, SPEED}
use Rattle.expansion.specs.declared.parts.PartKind.{PartKind}
use Rattle.expansion.specs.declared.parts.PartKind.TheVariants.{LeftOut, NoInformation, Digits}
use Rattle.expansion.specs.declared.values.Sets.{Sets}
use Rattle.expansion.specs.Parts.{IsThere, IsUpTo}
use Rattle.expansion.specs.Expansions.{IsExpansion}
use Rattle.expansion.specs.Spelling.{set_symbols, covered, spell}

length-four : (n : ℕ) → length (four_digits n) ≡ 2
unfolding four_digits
length-four n = refl

length-position : (specifier : ℕ) (p : PartKind) → length (set_symbols specifier eight_digits p) ≤ 5
length-position specifier LeftOut = omega arith
length-position specifier NoInformation = omega arith
length-position specifier (Digits n) = omega (arith, length-eight n)

length-set : (specifier : ℕ) (p : PartKind) → length (set_symbols specifier four_digits p) ≤ 3
length-set specifier LeftOut = omega arith
length-set specifier NoInformation = omega arith
length-set specifier (Digits n) = omega (arith, length-four n)

two-position : (specifier : ℕ) (p : PartKind) → IsThere p → 2 ≤ length (set_symbols specifier eight_digits p)
two-position specifier LeftOut h = absurd h
two-position specifier NoInformation h = omega arith
two-position specifier (Digits n) h = omega (arith, length-eight n)

two-set : (specifier : ℕ) (p : PartKind) → IsThere p → 2 ≤ length (set_symbols specifier four_digits p)
two-set specifier LeftOut h = absurd h
two-set specifier NoInformation h = omega arith
two-set specifier (Digits n) h = omega (arith, length-four n)

length-sets : (a b c : List ℕ) (last : ℕ) → length (a ++ (b ++ (c ++ (last ∷ [])))) ≡ length a + (length b + (length c + 1))
length-sets a b c last =
    omega (arith, length-append a (b ++ (c ++ (last ∷ []))), length-append b (c ++ (last ∷ [])), length-append c (last ∷ []))

pub length-covered : (x : Sets) (e : End) → length (covered x e) ≤ 12
length-covered x e =
    omega (
      arith,
      length-sets (set_symbols ENHANCED_POSITION eight_digits x.enhanced) (set_symbols SPEED four_digits x.speed) (set_symbols COURSE four_digits x.course) (end_symbol e),
      length-position ENHANCED_POSITION x.enhanced,
      length-set SPEED x.speed,
      length-set COURSE x.course,
    )

-- an expansion's list has at most 15 symbols
pub length-spell : (x : Sets) (e : End) → length (spell x e) ≤ 15
length-spell x e =
    omega (arith, length-covered x e, length-append (covered x e) (check_of (covered x e) ∷ end_symbol e ∷ end_symbol e ∷ []))

two_at_least : (x : Sets) → IsThere x.enhanced ⊎ IsThere x.speed ⊎ IsThere x.course
    → 2 ≤ length (set_symbols ENHANCED_POSITION eight_digits x.enhanced) + (length (set_symbols SPEED four_digits x.speed) + length (set_symbols COURSE four_digits x.course))
two_at_least x (inl h) = omega (arith, two-position ENHANCED_POSITION x.enhanced h)
two_at_least x (inr (inl h)) = omega (arith, two-set SPEED x.speed h)
two_at_least x (inr (inr h)) = omega (arith, two-set COURSE x.course h)

pub six-spell : (x : Sets) (e : End) → IsExpansion x → 6 ≤ length (spell x e)
six-spell x e h =
    omega (
      arith,
      two_at_least x h.some,
      length-sets (set_symbols ENHANCED_POSITION eight_digits x.enhanced) (set_symbols SPEED four_digits x.speed) (set_symbols COURSE four_digits x.course) (end_symbol e),
      length-append (covered x e) (check_of (covered x e) ∷ end_symbol e ∷ end_symbol e ∷ []),
    )

of_position : (specifier : ℕ) (p : PartKind) → specifier < 128 → IsUpTo 99999999 p → AreCharacters (set_symbols specifier eight_digits p)
of_position specifier LeftOut s h = tt
of_position specifier NoInformation s h = (s, (omega arith, tt))
of_position specifier (Digits n) s h = (s, of_eight n (omega arith))

of_set : (specifier : ℕ) (p : PartKind) → specifier < 128 → IsUpTo 9999 p → AreCharacters (set_symbols specifier four_digits p)
of_set specifier LeftOut s h = tt
of_set specifier NoInformation s h = (s, (omega arith, tt))
of_set specifier (Digits n) s h = (s, of_four n (omega arith))

four_at_most : (p : PartKind) → IsUpTo 3599 p → IsUpTo 9999 p
four_at_most p h = grind arith

pub of_spell : (x : Sets) (e : End) → IsExpansion x → AreCharacters (spell x e)
of_spell x e h =
    let last = end_small e in
    let course = of_set COURSE x.course (omega arith) (four_at_most x.course h.course) in
    let speed = of_set SPEED x.speed (omega arith) h.speed in
    let enhanced = of_position ENHANCED_POSITION x.enhanced (omega arith) h.enhanced in
    let all : AreCharacters (covered x e) = both _ _ enhanced (both _ _ speed (both _ _ course (last, tt))) in
    both (covered x e) _ all (of_check (covered x e) all, (last, (last, tt)))
