-- Lines of which each says something of its own: this project's profile.
use Rattle.std.specs.Prelude.{◌≡◌, ℕ, List, [], ◌∷◌, ◌++◌}
use Rattle.line_engine.specs.Lines.{Lines}
use Rattle.line_engine.specs.Meaning.{Meaning}

-- what these lines say after earlier ones, where a line says a function of itself and of all before it
unfoldable pub said_behind : (says : Lines → List ℕ → List ℕ) → (earlier lines : Lines) → List ℕ
said_behind says earlier [] = []
said_behind says earlier (line ∷ lines) = says earlier line ++ said_behind says (earlier ++ line ∷ []) lines

-- what all these lines say
abbrev pub said : (says : Lines → List ℕ → List ℕ) → Lines → List ℕ
said says lines = said_behind says [] lines

-- lines give what they say, and so does a whole input, whose status is a function of its lines
pub record IsSaying (meaning : Meaning) (says : Lines → List ℕ → List ℕ) (status_of : Lines → ℕ) : Type 0 where
  pub gives : (lines : Lines) (text : List ℕ) → meaning.Gives lines text → text ≡ said says lines
  pub ends : (lines : Lines) (text : List ℕ) (status : ℕ) → meaning.Ends lines text status → (text ≡ said says lines) × (status ≡ status_of lines)
