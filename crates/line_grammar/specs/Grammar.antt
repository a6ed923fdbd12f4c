-- Grammars of lines and their languages: this project's profile.
use Rattle.std.specs.Prelude.{◌≡◌, ℕ, List, [], ◌++◌}
use Rattle.line_grammar.specs.Tokens.{Token, IsToken}

-- what may come from a place to the end of a line: nothing, anything, a word and what follows it, a token and what
-- follows it, or either of two
pub data Grammar : Type 0 where
  finish : Grammar
  anything : Grammar
  word : List ℕ → Grammar → Grammar
  field : Token → Grammar → Grammar
  either : Grammar → Grammar → Grammar

-- what was read from a place to the end of a line: no more, the bytes of a token and then more, or one of two
pub data Parts : Type 0 where
  none : Parts
  part : List ℕ → Parts → Parts
  first : Parts → Parts
  second : Parts → Parts

-- the language of a grammar: which bytes have which parts
abbrev pub Spells : Grammar → Parts → List ℕ → Type 0
Spells finish none bytes = bytes ≡ []
Spells anything none bytes = Unit {0}
Spells (word text rest) parts bytes = (back : List ℕ) × (bytes ≡ text ++ back) × Spells rest parts back
Spells (field token rest) (part front parts) bytes =
    IsToken token front × ((back : List ℕ) × (bytes ≡ front ++ back) × Spells rest parts back)
Spells (either left right) (first parts) bytes = Spells left parts bytes
Spells (either left right) (second parts) bytes = Spells right parts bytes
Spells _ _ bytes = ⊥

-- the parts are those of a line, each token as itself
abbrev pub AreParts : Grammar → Parts → Type 0
AreParts finish none = Unit {0}
AreParts (word text rest) parts = AreParts rest parts
AreParts (field token rest) (part front parts) = IsToken token front × AreParts rest parts
AreParts (either left right) (first parts) = AreParts left parts
AreParts (either left right) (second parts) = AreParts right parts
AreParts _ _ = ⊥

-- the line that is written of these parts
abbrev pub written : Grammar → Parts → List ℕ
written (word text rest) parts = text ++ written rest parts
written (field token rest) (part front parts) = front ++ written rest parts
written (either left right) (first parts) = written left parts
written (either left right) (second parts) = written right parts
written _ _ = []
