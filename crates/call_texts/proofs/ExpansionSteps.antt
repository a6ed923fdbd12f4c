-- the steps of the readers of expansions
use Rattle.std.proofs.Common.{◌≡◌, ℕ, List, [], ◌++◌, codes, Result, IfOk, ◌⊎◌, sym, ◌∙◌, ap, append-nil, append_assoc, arith}
use Rattle.expansion.specs.declared.parts.PartKind.{PartKind}
use Rattle.expansion.specs.Parts.{IsThere}
use Rattle.expansion.specs.declared.values.Sets.{Sets}
use Rattle.expansion.specs.Expansions.{IsExpansion}
use Rattle.line_grammar.specs.Grammar.{Grammar, finish, Parts, none, first, second, written}
use Rattle.line_grammar.specs.inside.Reading.{ended, read}
use Rattle.call_texts.specs.CallGrammar as grammar
use Rattle.call_texts.specs.CallGrammar.{perhaps}
use Rattle.line_grammar.specs.Sections.{ReadsForm, ReadsTail}
use Rattle.call_texts.specs.CallParts as parts
use Rattle.call_texts.specs.CallParts.{perhaps_parts, expansion_text}
use Rattle.call_texts.specs.inside.Expansions.{set_part, label_and_set}

-- the end
pub ended_read : (bytes : List ℕ) (r : Result Parts ℕ) → ended bytes ≡ r → read finish bytes ≡ r
unfolding read
ended_read bytes r e = e

-- a reader of a form whose values have other parts elsewhere
pub moved : {V : Type 0} {Lawful : V → Type 0} (G : Grammar) (place : Parts → Parts) (f g : V → Parts) (bytes : List ℕ) (r : Result V ℕ)
    → ((v : V) → Lawful v → g v ≡ place (f v)) → IfOk r Lawful → ReadsForm G (λ p. p) f bytes r → ReadsForm G place g bytes r
moved G place f g bytes r same h k = grind arith

-- a reader of a form that is alone
pub settled : {V : Type 0} (G : Grammar) (parts : V → Parts) (bytes : List ℕ) (r : Result V ℕ) → ReadsForm G (λ p. p) parts bytes r → ReadsTail G parts bytes r
settled G parts bytes r h = grind arith

-- the parts of a set that is there
pub there_parts : (width : ℕ) (x : PartKind) (q : Parts) → IsThere x → perhaps_parts width x q ≡ second (set_part width x q)
there_parts width x q h = grind arith

pub from_enhanced_parts : (e s c : PartKind) (q : Parts) → IsThere e → parts.set_parts e s c q ≡ first (set_part 8 e (perhaps_parts 4 s (perhaps_parts 4 c q)))
from_enhanced_parts e s c q h = grind arith

abbrev course_word : PartKind → List ℕ
course_word c = label_and_set (codes " course=") 4 c ++ []

abbrev speed_words : PartKind → PartKind → List ℕ
speed_words s c = label_and_set (codes " speed=") 4 s ++ course_word c

abbrev sets_words : PartKind → PartKind → PartKind → List ℕ
sets_words e s c = label_and_set (codes " enh=") 8 e ++ speed_words s c

sets_written : (e s c : PartKind) → IsThere e ⊎ IsThere s ⊎ IsThere c → written (grammar.sets finish) (parts.set_parts e s c none) ≡ sets_words e s c
sets_written e s c h = grind arith

abbrev words : PartKind → PartKind → PartKind → List ℕ
words e s c = codes " exp" ++ (label_and_set (codes " enh=") 8 e ++ (label_and_set (codes " speed=") 4 s ++ label_and_set (codes " course=") 4 c))

expansion_written : (x : Sets) → IsExpansion x → expansion_text x ≡ words x.enhanced x.speed x.course
unfolding expansion_text
expansion_written x h =
    ap (λ (l : List ℕ). codes " exp" ++ l) (sets_written x.enhanced x.speed x.course h.some
    ∙ ap (λ (l : List ℕ). label_and_set (codes " enh=") 8 x.enhanced ++ (label_and_set (codes " speed=") 4 x.speed ++ l)) (append-nil (label_and_set (codes " course=") 4 x.course)))

joined : (old a b c d : List ℕ) → (((old ++ a) ++ b) ++ c) ++ d ≡ old ++ (a ++ (b ++ (c ++ d)))
joined old a b c d = simp append_assoc

pub expansion_appended : (x : Sets) (e s c : PartKind) (old one two three new : List ℕ) → IsExpansion x → e ≡ x.enhanced → s ≡ x.speed → c ≡ x.course
    → one ≡ old ++ codes " exp" → two ≡ one ++ label_and_set (codes " enh=") 8 e → three ≡ two ++ label_and_set (codes " speed=") 4 s → new ≡ three ++ label_and_set (codes " course=") 4 c
    → new ≡ old ++ expansion_text x
expansion_appended x e s c old one two three new h es ss cs i j k l =
    l ∙ ap (λ (o : List ℕ). o ++ label_and_set (codes " course=") 4 c) (k ∙ ap (λ (o : List ℕ). o ++ label_and_set (codes " speed=") 4 s) (j ∙ ap (λ (o : List ℕ). o ++ label_and_set (codes " enh=") 8 e) i))
    ∙ joined old (codes " exp") (label_and_set (codes " enh=") 8 e) (label_and_set (codes " speed=") 4 s) (label_and_set (codes " course=") 4 c)
    ∙ ap (λ (o : List ℕ). old ++ o)
    (ap (λ (y : PartKind). words y s c) es ∙ ap (λ (y : PartKind). words x.enhanced y c) ss ∙ ap (λ (y : PartKind). words x.enhanced x.speed y) cs ∙ sym (expansion_written x h))
