-- What a reader of a language does with a list of symbols.
use Rattle.std.specs.Prelude.{◌≡◌, ℕ, List, [], ◌∷◌, ◌++◌, Result, Ok, Err}
use Rattle.symbol_reader.specs.declared.reading.Stop.{Stop}
use Rattle.symbol_reader.specs.declared.reading.Stop.TheVariants.{Short, Outside}

-- the list begins a word of the language
pub record Begins {V : Type 0} (language : V → List ℕ → Type 0) (l : List ℕ) : Type 0 where
  pub value : V
  pub rest : List ℕ
  pub word : language value (l ++ rest)

-- the list begins a longer word of the language
pub record Wants {V : Type 0} (language : V → List ℕ → Type 0) (l : List ℕ) : Type 0 where
  pub value : V
  pub next : ℕ
  pub rest : List ℕ
  pub word : language value (l ++ (next ∷ rest))

-- a word of this value was read
pub record Took {V : Type 0} (language : V → List ℕ → Type 0) (v : V) (old new : List ℕ) : Type 0 where
  pub front : List ℕ
  pub word : language v front
  pub list : old ≡ front ++ new

-- the list ended inside a word
pub record Ends {V : Type 0} (language : V → List ℕ → Type 0) (old new : List ℕ) : Type 0 where
  pub wants : Wants language old
  pub none_left : new ≡ []

-- reading went as far as words go, and stopped before the first symbol with which none goes on
pub record Leaves {V : Type 0} (language : V → List ℕ → Type 0) (old new : List ℕ) : Type 0 where
  pub front : List ℕ
  pub next : ℕ
  pub rest : List ℕ
  pub list : old ≡ front ++ (next ∷ rest)
  pub left : new ≡ next ∷ rest
  pub wants : Wants language front
  pub never : Begins language (front ++ (next ∷ [])) → ⊥

-- what each answer says of the list before and after
abbrev pub Outcome : {V : Type 0} (language : V → List ℕ → Type 0) (old : List ℕ) → Result V Stop → (new : List ℕ) → Type 0
Outcome language old (Ok v) new = Took language v old new
Outcome language old (Err Short) new = Ends language old new
Outcome language old (Err Outside) new = Leaves language old new

-- the language was read from the old list, and the new one is left
pub record Reads {V : Type 0} (language : V → List ℕ → Type 0) (old : List ℕ) (result : Result V Stop) (new : List ℕ) : Type 0 where
  pub outcome : Outcome language old result new
