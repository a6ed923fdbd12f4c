-- What follows the first end of sequence can be recognized while it is read.
use Rattle.std.proofs.Common.{ℕ, List}
use Rattle.symbol_reader.specs.declared.letters.Letter.TheVariants.{Exactly}
use Rattle.symbol_reader.specs.Letters.{Allows}
use Rattle.symbol_reader.specs.inside.Languages.{One, Only, Then}
use Rattle.symbol_reader.specs.inside.Closings.{Closing}
use Rattle.symbol_reader.proofs.Laws.{Good, then_good, only_good}
use Rattle.symbol_reader.proofs.Steps.{letter_good}

abbrev pub Last : ℕ → Unit {0} → List ℕ → Type 0
Last last = Then (One (Allows (Exactly last))) (λ _. Only tt)

pub last_good : (last : ℕ) → Good (Last last)
last_good last = then_good _ _ (letter_good (Exactly last)) (λ _ _ _. only_good tt)

pub ends_good : (last : ℕ) → Good (Then (One (Allows (Exactly last))) (λ _. Last last))
ends_good last = then_good _ _ (letter_good (Exactly last)) (λ _ _ _. last_good last)

pub closing_good : (check last : ℕ) → Good (Closing check last)
closing_good check last = then_good _ _ (letter_good (Exactly check)) (λ _ _ _. ends_good last)
