-- The words of the command line: this project's profile.
use Rattle.std.specs.Prelude.{◌≡◌, ◌⊎◌, ◌≤◌, ◌++◌, ◌∷◌, ℕ, List, [], Option, Some, None, codes, decimal, Bool, false, if◌then◌else◌}
use Rattle.command_line.specs.declared.plans.Plan.{Plan}
use Rattle.command_line.specs.declared.plans.Plan.TheVariants.{Join, Evidence, Encode, Sentences, Replay, Make, Capture, Watch, Exchange, Book}

-- the bytes of a text
abbrev pub Text : Type 0
Text = List ℕ

-- the text is a number from 1 to `most` in plain decimal digits, without a sign or a leading zero
abbrev pub IsNumber : ℕ → Text → ℕ → Type 0
IsNumber most text n = (text ≡ decimal n) × (1 ≤ n) × (n ≤ most)

-- nothing is there, or the option's name and the text that it is given: two words, or one with `=` between them
abbrev pub IsOption : Text → List Text → Option Text → Type 0
IsOption name words None = words ≡ []
IsOption name words (Some text) =
    (words ≡ (codes "--" ++ name) ∷ text ∷ []) ⊎ (words ≡ (codes "--" ++ name ++ codes "=" ++ text) ∷ [])

-- the number of workers: 1 to 64, and 1 where none is given
abbrev pub IsWorkers : Option Text → ℕ → Type 0
IsWorkers None n = n ≡ 1
IsWorkers (Some text) n = IsNumber 64 text n

-- nothing, `--workers N` or `--workers=N`
abbrev pub HasWorkers : List Text → ℕ → Type 0
HasWorkers words n = (given : Option Text) × IsOption (codes "workers") words given × IsWorkers given n

-- the dots: 20 or 200, and 20 where none are given
abbrev pub IsDots : Option Text → Bool → Type 0
IsDots None long = long ≡ false
IsDots (Some text) long = text ≡ (if long then codes "200" else codes "20")

-- nothing, `--dots D` or `--dots=D`
abbrev pub HasDots : List Text → Bool → Type 0
HasDots words long = (given : Option Text) × IsOption (codes "dots") words given × IsDots given long

-- the number of groups: 1 to 1,000, which has to be given
abbrev pub IsGroups : Option Text → ℕ → Type 0
IsGroups None n = ⊥
IsGroups (Some text) n = IsNumber 1000 text n

-- one word: the number of groups
abbrev pub HasGroups : List Text → ℕ → Type 0
HasGroups words n = (text : Text) × (words ≡ text ∷ []) × IsNumber 1000 text n

-- the command's word, and the words after it
abbrev pub IsCommand : Text → List Text → Plan → Type 0
IsCommand command words (Join n) = (command ≡ codes "join") × HasWorkers words n
IsCommand command words (Evidence n) = (command ≡ codes "evidence") × HasWorkers words n
IsCommand command words (Encode long) = (command ≡ codes "encode") × HasDots words long
IsCommand command words Sentences = (command ≡ codes "sentences") × (words ≡ [])
IsCommand command words (Replay n) = (command ≡ codes "replay") × HasWorkers words n
IsCommand command words (Make n) = (command ≡ codes "make") × HasGroups words n
IsCommand command words Capture = (command ≡ codes "capture") × (words ≡ [])
IsCommand command words (Watch n) = (command ≡ codes "watch") × HasWorkers words n
IsCommand command words Exchange = (command ≡ codes "exchange") × (words ≡ [])
IsCommand command words Book = (command ≡ codes "book") × (words ≡ [])

-- the words are the program's name, a command, and the words of its option or its number
pub record IsPlan (words : List Text) (plan : Plan) : Type 0 where
  pub name : Text
  pub command : Text
  pub rest : List Text
  pub words_are : words ≡ name ∷ command ∷ rest
  pub is_command : IsCommand command rest plan

-- a plan's numbers are in their ranges
abbrev pub IsInRange : Plan → Type 0
IsInRange (Join n) = (1 ≤ n) × (n ≤ 64)
IsInRange (Evidence n) = (1 ≤ n) × (n ≤ 64)
IsInRange (Encode long) = Unit {0}
IsInRange Sentences = Unit {0}
IsInRange (Replay n) = (1 ≤ n) × (n ≤ 64)
IsInRange (Make n) = (1 ≤ n) × (n ≤ 1000)
IsInRange Capture = Unit {0}
IsInRange (Watch n) = (1 ≤ n) × (n ≤ 64)
IsInRange Exchange = Unit {0}
IsInRange Book = Unit {0}
