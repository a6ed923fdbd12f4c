-- Languages: which lists of symbols spell which values.
use Rattle.std.specs.Prelude.{◌≡◌, ℕ, Bool, true, false, List, [], ◌∷◌, ◌++◌}

-- one symbol of a set spells itself
pub record One (allows : ℕ → Type 0) (v : ℕ) (word : List ℕ) : Type 0 where
  pub allowed : allows v
  pub list : word ≡ v ∷ []

-- no symbol at all spells this value
pub record Only {V : Type 0} (it : V) (v : V) (word : List ℕ) : Type 0 where
  pub value : v ≡ it
  pub list : word ≡ []

-- a word of the first language, and then one of a language that the first word's value chooses
pub record Then {U V : Type 0} (first : U → List ℕ → Type 0) (second : U → V → List ℕ → Type 0) (v : V) (word : List ℕ) : Type 0 where
  pub chosen : U
  pub front : List ℕ
  pub back : List ℕ
  pub before : first chosen front
  pub after : second chosen v back
  pub list : word ≡ front ++ back

-- a word of the first language where the test holds, and else of the second
pub record Choice {V : Type 0} (test : Bool) (first : V → List ℕ → Type 0) (second : V → List ℕ → Type 0) (v : V) (word : List ℕ) : Type 0 where
  pub yes : test ≡ true → first v word
  pub no : test ≡ false → second v word

-- a lawful value is spelled by its list
pub record Spelled {V : Type 0} (lawful : V → Type 0) (spelling : V → List ℕ) (v : V) (word : List ℕ) : Type 0 where
  pub is_lawful : lawful v
  pub list : word ≡ spelling v
