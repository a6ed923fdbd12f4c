-- What a set of facts shows of a list of characters: this project's profile, over the places of ITU-R M.493.
use Rattle.std.specs.Prelude.{◌≡◌, ℕ, ◌+◌, ◌<◌, ◌≤◌, ◌||◌, ◌⊎◌, List, ◌∷◌, length, take, slice_index}
use Rattle.call_grammar.specs.Walk.{IsViable, IsAtEnd}
use Rattle.slot_evidence.specs.Facts.{Facts, Symbols}
use Rattle.slot_evidence.specs.Seen.{ShowsNone, ShowsOne}

-- the symbols that the two places of the format specifier showed
abbrev pub head_of : Facts → Symbols
head_of F v = F 0 v || F 1 v

-- the symbols that the places of the second and the third end of sequence showed, where the first is at place n
abbrev pub late_of : Facts → ℕ → Symbols
late_of F n v = F (n + 2) v || F (n + 3) v

-- the first end of sequence is next after the front, its place showed nothing, and this is the one symbol that those of
-- the second and the third showed
pub record IsLate (F : Facts) (front : List ℕ) (n v : ℕ) : Type 0 where
  pub at_end : IsAtEnd front
  pub none : ShowsNone (F n)
  pub copies : ShowsOne (late_of F n) v

-- after the front before it, a place gives the one symbol that it showed, or the late end of sequence
abbrev pub Gives : Facts → List ℕ → ℕ → ℕ → Type 0
Gives F front p v = ShowsOne (F p) v ⊎ IsLate F front p v

-- a list of two characters or more is shown: its first two are one format specifier, the only one that these two places
-- showed, and each further place gives the list's character after what comes before it
pub record IsShown (F : Facts) (list : List ℕ) : Type 0 where
  pub format : ℕ
  pub rest : List ℕ
  pub begins : list ≡ format ∷ format ∷ rest
  pub head : ShowsOne (head_of F) format
  pub places : (p : ℕ) → 2 ≤ p → p < length list → Gives F (take p list) p (slice_index list p)

-- at some place the list has a late end of sequence
pub record IsShownLate (F : Facts) (list : List ℕ) : Type 0 where
  pub place : ℕ
  pub inside : place < length list
  pub late : IsLate F (take place list) place (slice_index list place)

-- the longest shown list that begins a call
pub record IsLongest (F : Facts) (list : List ℕ) : Type 0 where
  pub shown : IsShown F list
  pub viable : IsViable list
  pub longest : (other : List ℕ) → IsShown F other → IsViable other → length other ≤ length list
