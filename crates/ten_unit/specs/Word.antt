-- The ten-element character: ITU-R M.493, section on the error-detecting code.
use Rattle.std.specs.Prelude.{ℕ, ◌/◌, ◌%◌, Bool, true, false, ◌&&◌, if◌then◌else◌, ◌==◌, List, [], ◌∷◌, ◌++◌, count_by}
use Rattle.ten_unit.specs.declared.character.Element.{Element}
use Rattle.ten_unit.specs.declared.character.Element.TheVariants.{Y, B, Lost}

-- the element of a binary digit: Y for 1 and B for 0
abbrev pub element : ℕ → Element
element digit = if digit == 1 then Y else B

-- elements 1 to 7: the bits of a symbol, least significant first
abbrev pub information : ℕ → List Element
information v =
    element (v % 2) ∷ element (v / 2 % 2) ∷ element (v / 4 % 2) ∷ element (v / 8 % 2)
    ∷ element (v / 16 % 2) ∷ element (v / 32 % 2) ∷ element (v / 64 % 2) ∷ []

-- the test whether an element is B
abbrev pub is_b : Element → Bool
is_b Y = false
is_b B = true
is_b Lost = false

-- how many elements are B
abbrev pub count_of_b : List Element → ℕ
count_of_b elements = count_by is_b elements

-- elements 8 to 10: a number below eight, most significant first
abbrev pub number : ℕ → List Element
number n = element (n / 4 % 2) ∷ element (n / 2 % 2) ∷ element (n % 2) ∷ []

-- the word of a symbol from 0 to 127: its bits, and then how many of them are B
unfoldable pub word_of : ℕ → List Element
word_of v = information v ++ number (count_of_b (information v))

-- the test whether two elements are one
abbrev pub element_eq : Element → Element → Bool
element_eq Y Y = true
element_eq B B = true
element_eq Lost Lost = true
element_eq _ _ = false

-- the test whether two lists of elements are one
abbrev pub elements_eq : List Element → List Element → Bool
elements_eq [] [] = true
elements_eq (a ∷ rest) (b ∷ others) = element_eq a b && elements_eq rest others
elements_eq _ _ = false

-- a list of elements is the word of this symbol
unfoldable pub is_word : List Element → ℕ → Bool
is_word w v = elements_eq w (word_of v)
