-- A word is read back: its information elements carry its symbol.
use Rattle.std.proofs.Common.{◌≡◌, ℕ, zero, suc, ◌/◌, ◌%◌, ◌<◌, Bool, true, false, ◌&&◌, cond, eqb, ◌==◌, length, List, [], ◌∷◌, ◌++◌, refl, ap, ◌∙◌}
use Rattle.std.proofs.lemmas.Bool.Decides.{Decides-below_and, Decides-eqb}
use Rattle.std.proofs.lemmas.Bool.{and_parts}
use Rattle.ten_unit.specs.declared.character.Element.{Element}
use Rattle.ten_unit.specs.declared.character.Element.TheVariants.{Y, B, Lost}
use Rattle.ten_unit.specs.inside.Carried.{value_of}
use Rattle.ten_unit.specs.Word.{word_of, element, information, number, count_of_b, element_eq, elements_eq, is_word}

-- elements that are found equal are the same
pub element_same : (a b : Element) → element_eq a b ≡ true → a ≡ b
element_same Y Y e = refl
element_same B B e = refl
element_same Lost Lost e = refl
element_same Y B e = absurd cc
element_same Y Lost e = absurd cc
element_same B Y e = absurd cc
element_same B Lost e = absurd cc
element_same Lost Y e = absurd cc
element_same Lost B e = absurd cc

-- elements that compare equal are the same
pub elements_same : (xs ys : List Element) → elements_eq xs ys ≡ true → xs ≡ ys
elements_same [] [] e = refl
elements_same [] (y ∷ ys) e = absurd cc
elements_same (x ∷ xs) [] e = absurd cc
elements_same (x ∷ xs) (y ∷ ys) e =
    let both = and_parts (element_eq x y) (elements_eq xs ys) e in
    let first = element_same x y both.0 in
    let rest = elements_same xs ys both.1 in
    cc

-- a word has ten elements
pub length-word : (v : ℕ) → length (word_of v) ≡ 10
unfolding word_of
length-word v = refl

-- a list without elements is no word
pub is_word-none : (v : ℕ) → is_word [] v ≡ false
unfolding is_word word_of
is_word-none v = refl

-- what stands for a binary digit is not lost
pub element-sent : (digit : ℕ) → element digit ≡ Lost → ⊥
element-sent digit h = sent (digit == 1) h
  where
    sent : (b : Bool) → cond b Y B ≡ Lost → ⊥
    sent true h = cc
    sent false h = cc

abbrev each_back : ℕ → Bool
each_back zero = true
each_back (suc n) = eqb (value_of (word_of n)) n && each_back n

all_back : each_back 128 ≡ true
unfolding word_of
all_back = refl

pub value_back : (v : ℕ) → v < 128 → value_of (word_of v) ≡ v
value_back v below =
    (Decides-below_and (λ n. eqb (value_of (word_of n)) n) (λ n. value_of (word_of n) ≡ n) each_back (λ n. Decides-eqb (value_of (word_of n)) n) refl (λ _. refl) 128).0 all_back v below

-- a word of v carries v
pub word_value : (w : List Element) (v : ℕ) → v < 128 → is_word w v ≡ true → value_of w ≡ v
unfolding is_word
word_value w v below e = ap value_of (elements_same w (word_of v) e) ∙ value_back v below

-- a word by its parts
pub word_parts : (s count : ℕ) (a b c d e f g h i j : Element) → a ≡ element (s % 2) → b ≡ element (s / 2 % 2) → c ≡ element (s / 4 % 2) → d ≡ element (s / 8 % 2)
    → e ≡ element (s / 16 % 2) → f ≡ element (s / 32 % 2) → g ≡ element (s / 64 % 2) → count ≡ count_of_b (a ∷ b ∷ c ∷ d ∷ e ∷ f ∷ g ∷ [])
    → h ≡ element (count / 4 % 2) → i ≡ element (count / 2 % 2) → j ≡ element (count % 2) → (a ∷ b ∷ c ∷ d ∷ e ∷ f ∷ g ∷ h ∷ i ∷ j ∷ []) ≡ word_of s
unfolding word_of
word_parts s count a b c d e f g h i j ea eb ec ed ee ef eg ecount eh ei ej =
    let info : (a ∷ b ∷ c ∷ d ∷ e ∷ f ∷ g ∷ []) ≡ information s = cc in
    let counted : count ≡ count_of_b (information s) = ecount ∙ ap count_of_b info in
    let last : (h ∷ i ∷ j ∷ []) ≡ number (count_of_b (information s)) = (cc (eh, ei, ej)) ∙ ap number counted in
    ap (λ (l : List Element). l ++ (h ∷ i ∷ j ∷ [])) info ∙ ap (λ (l : List Element). information s ++ l) last

-- each element is found equal to itself
pub element_own : (a : Element) → element_eq a a ≡ true
element_own Y = refl
element_own B = refl
element_own Lost = refl

-- elements compare equal to themselves
pub elements_own : (xs : List Element) → elements_eq xs xs ≡ true
elements_own [] = refl
elements_own (x ∷ xs) = ap (λ (b : Bool). b && elements_eq xs xs) (element_own x) ∙ elements_own xs
