-- What follows the first end of sequence: ITU-R M.493, composition of call sequences.
use Rattle.std.specs.Prelude.{ℕ, List}
use Rattle.symbol_reader.specs.declared.letters.Letter.TheVariants.{Exactly}
use Rattle.symbol_reader.specs.Letters.{Allows}
use Rattle.symbol_reader.specs.inside.Languages.{One, Only, Then}

-- the check, and the end of sequence twice more
abbrev pub Closing : ℕ → ℕ → Unit {0} → List ℕ → Type 0
Closing check last =
    Then (One (Allows (Exactly check))) (λ _. Then (One (Allows (Exactly last))) (λ _. Then (One (Allows (Exactly last))) (λ _. Only tt)))
