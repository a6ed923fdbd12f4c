-- expansions and the parts of their texts
use Rattle.std.proofs.Common.{◌≡◌, ℕ, ◌<◌, ◌^◌, List, ◌⊎◌, inl, inr, Option, Some, None, codes, slice_index_or, refl, sym, ap, arith}
use Rattle.expansion.specs.declared.parts.PartKind.{PartKind}
use Rattle.expansion.specs.declared.parts.PartKind.TheVariants.{LeftOut, NoInformation, Digits}
use Rattle.expansion.specs.declared.values.Sets.{Sets}
use Rattle.expansion.specs.Parts.{IsUpTo}
use Rattle.expansion.specs.Expansions.{IsExpansion}
use Rattle.line_grammar.specs.Grammar.{Grammar, Parts}
use Rattle.line_grammar.specs.Shapes.{digits}
use Rattle.line_grammar.specs.Tokens.{IsToken}
use Rattle.line_grammar.proofs.Digits.{one_number}
use Rattle.call_texts.specs.CallGrammar as grammar
use Rattle.call_texts.specs.CallGrammar.{set, perhaps}
use Rattle.call_texts.specs.CallParts as parts
use Rattle.call_texts.specs.CallParts.{set_text, perhaps_parts, expansion_parts}
use Rattle.call_texts.specs.Texts.{IsWholeOrAbsent, extra_of}
use Rattle.call_texts.specs.inside.Expansions.{IsSet, set_part, tail_parts}
use Rattle.line_grammar.proofs.Rows.{under}
use Rattle.line_grammar.proofs.Sections.{TokenTexts, Section, worded, labelled, nothing, followed, LawfulSide, side_parts, sided, renamed}
use Rattle.call_texts.proofs.FieldTexts.{most_of}

-- no digits are the letters of none
four_apart : (n : ℕ) → digits 4 n ≡ codes "none" → ⊥
unfolding digits
four_apart n e = omega (arith, ap (λ (l : List ℕ). slice_index_or l 3 0) e)

eight_apart : (n : ℕ) → digits 8 n ≡ codes "none" → ⊥
unfolding digits
eight_apart n e = omega (arith, ap (λ (l : List ℕ). slice_index_or l 3 0) e)

-- the value of a set that is there
set_is : (width most : ℕ) (x : PartKind) → IsSet most x → IsToken (set width most) (set_text width x)
set_is width most x h = grind arith

set_of : (width most : ℕ) (bytes : List ℕ) → IsToken (set width most) bytes → (x : PartKind) × IsSet most x × (bytes ≡ set_text width x)
set_of width most bytes (inl e) = (NoInformation, (tt, tt), e)
set_of width most bytes (inr h) = (Digits h.0, (tt, most_of width most bytes h), h.2)

set_one : (width most : ℕ) → most < 10 ^ width → ((n : ℕ) → digits width n ≡ codes "none" → ⊥) → (x y : PartKind) → IsSet most x → IsSet most y → set_text width x ≡ set_text width y → x ≡ y
set_one width most below apart LeftOut y h k e = absurd h.0
set_one width most below apart NoInformation LeftOut h k e = absurd k.0
set_one width most below apart NoInformation NoInformation h k e = refl
set_one width most below apart NoInformation (Digits n) h k e = absurd (apart n (sym e))
set_one width most below apart (Digits m) LeftOut h k e = absurd k.0
set_one width most below apart (Digits m) NoInformation h k e = absurd (apart m e)
set_one width most below apart (Digits m) (Digits n) h k e = ap Digits (one_number width m n (omega (arith, below, h.1)) (omega (arith, below, k.1)) e)

set_told : (width most : ℕ) → most < 10 ^ width → ((n : ℕ) → digits width n ≡ codes "none" → ⊥) → TokenTexts (set width most) (IsSet most) (set_text width)
set_told width most below apart = record { is = set_is width most; of = set_of width most; one = set_one width most below apart }

-- the sets, as sections
enhanced_section : Section {V = PartKind} grammar.enhanced (IsSet 99999999) (set_part 8)
enhanced_section = labelled (codes " enh=") (set_told 8 99999999 (omega arith) eight_apart)

speed_section : Section {V = PartKind} grammar.speed (IsSet 9999) (set_part 4)
speed_section = labelled (codes " speed=") (set_told 4 9999 (omega arith) four_apart)

course_section : Section {V = PartKind} grammar.course (IsSet 3599) (set_part 4)
course_section = labelled (codes " course=") (set_told 4 3599 (omega arith) four_apart)

-- a set that may be left out
abbrev one_told : PartKind → Unit {0} ⊎ PartKind
one_told LeftOut = inl tt
one_told NoInformation = inr NoInformation
one_told (Digits n) = inr (Digits n)

abbrev one_back : Unit {0} ⊎ PartKind → PartKind
one_back (inl u) = LeftOut
one_back (inr x) = x

abbrev IsOne : ℕ → Unit {0} ⊎ PartKind → Type 0
IsOne most = LawfulSide (λ (u : Unit {0}). Unit {0}) (IsSet most)

abbrev one_parts : ℕ → Unit {0} ⊎ PartKind → Parts → Parts
one_parts width = side_parts (λ (u : Unit {0}) (q : Parts). q) (set_part width)

one_lawful : (most : ℕ) (x : PartKind) → IsUpTo most x → IsOne most (one_told x)
one_lawful most x h = grind arith

one_lawful_back : (most : ℕ) (w : Unit {0} ⊎ PartKind) → IsOne most w → IsUpTo most (one_back w)
one_lawful_back most w h = grind arith

one_again : (x : PartKind) → one_back (one_told x) ≡ x
one_again x = grind arith

one_there : (width : ℕ) (x : PartKind) (q : Parts) → perhaps_parts width x q ≡ one_parts width (one_told x) q
one_there width x q = grind arith

one_here : (width most : ℕ) (w : Unit {0} ⊎ PartKind) → IsOne most w → (q : Parts) → perhaps_parts width (one_back w) q ≡ one_parts width w q
one_here width most w h q = grind arith

perhaps_set : {G : Grammar → Grammar} (width most : ℕ) → Section {V = PartKind} G (IsSet most) (set_part width) → Section {V = PartKind} (perhaps G) (IsUpTo most) (perhaps_parts width)
perhaps_set width most s =
    renamed (sided nothing s) one_told one_back (one_lawful most) (one_lawful_back most) (λ x h. one_again x) (λ x h. one_there width x) (one_here width most)

-- the sets of an expansion, by the first one that is there
abbrev FirstSet : Type 0
FirstSet = (PartKind × (PartKind × PartKind)) ⊎ ((PartKind × PartKind) ⊎ PartKind)

abbrev AreSome : FirstSet → Type 0
AreSome =
    LawfulSide (λ (w : PartKind × (PartKind × PartKind)). IsSet 99999999 w.0 × (IsUpTo 9999 w.1.0 × IsUpTo 3599 w.1.1)) (
    LawfulSide (λ (w : PartKind × PartKind). IsSet 9999 w.0 × IsUpTo 3599 w.1) (IsSet 3599))

abbrev some_parts : FirstSet → Parts → Parts
some_parts =
    side_parts (λ (w : PartKind × (PartKind × PartKind)) (q : Parts). set_part 8 w.0 (perhaps_parts 4 w.1.0 (perhaps_parts 4 w.1.1 q))) (
    side_parts (λ (w : PartKind × PartKind) (q : Parts). set_part 4 w.0 (perhaps_parts 4 w.1 q)) (set_part 4))

some_section : Section {V = FirstSet} grammar.sets AreSome some_parts
some_section =
    let speed = perhaps_set 4 9999 speed_section in
    let course = perhaps_set 4 3599 course_section in
    sided (followed enhanced_section (followed speed course)) (sided (followed speed_section course) course_section)

abbrev some_told : PartKind → PartKind → PartKind → FirstSet
some_told LeftOut LeftOut c = inr (inr c)
some_told LeftOut s c = inr (inl (s, c))
some_told e s c = inl (e, (s, c))

abbrev some_back : FirstSet → Sets
some_back (inl w) = record { enhanced = w.0; speed = w.1.0; course = w.1.1 }
some_back (inr (inl w)) = record { enhanced = LeftOut; speed = w.0; course = w.1 }
some_back (inr (inr c)) = record { enhanced = LeftOut; speed = LeftOut; course = c }

some_lawful : (e s c : PartKind) → IsExpansion (record { enhanced = e; speed = s; course = c }) → AreSome (some_told e s c)
some_lawful e s c h = grind arith

some_lawful_back : (w : FirstSet) → AreSome w → IsExpansion (some_back w)
some_lawful_back w h = grind arith

some_again : (e s c : PartKind) → some_back (some_told e s c) ≡ record { enhanced = e; speed = s; course = c }
some_again e s c = grind arith

some_there : (e s c : PartKind) (q : Parts) → parts.set_parts e s c q ≡ some_parts (some_told e s c) q
some_there e s c q = grind arith

some_here : (w : FirstSet) → AreSome w → (q : Parts) → expansion_parts (some_back w) q ≡ some_parts w q
some_here w h q = grind arith

-- an expansion, as a section
expansion_section : Section {V = Sets} grammar.expansion IsExpansion expansion_parts
expansion_section =
    worded (codes " exp") (renamed some_section (λ x. some_told x.enhanced x.speed x.course) some_back
    (λ x h. some_lawful x.enhanced x.speed x.course h) some_lawful_back (λ x h. some_again x.enhanced x.speed x.course)
    (λ x h. some_there x.enhanced x.speed x.course) some_here)

-- what may follow a call: nothing, or an expansion
pub tail_section : Section {V = Option Sets} (perhaps grammar.expansion) (λ x. IsWholeOrAbsent (extra_of x)) tail_parts
tail_section =
    under
    (sided nothing expansion_section)
    (elim [ inl u ↦ (None, λ q. refl, λ h. h) | inr x ↦ (Some x, λ q. refl, λ h. h) ])
    (elim [ None ↦ (inl tt, refl, λ h. h) | Some x ↦ (inr x, refl, λ h. h) ])
