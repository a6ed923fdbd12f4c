-- Natures of distress and subsequent communications, a symbol each.
use Rattle.std.proofs.Common.{ℕ, [], ◌∷◌}
use Rattle.symbol_reader.specs.declared.letters.Letter.TheVariants.{Nature, Comm}
use Rattle.symbol_reader.specs.inside.Languages.{One, Spelled}
use Rattle.symbol_reader.proofs.Laws.{Good, Alike, alike_good}
use Rattle.symbol_reader.proofs.Steps.{letter_good}
use Rattle.dsc_symbols.specs.Natures.{IsNature}
use Rattle.dsc_symbols.specs.Telecommands.{IsComm}

-- one symbol of a set spells itself
pub symbol_alike : (allows : ℕ → Type 0) → Alike (One allows) (Spelled allows (λ n. n ∷ []))
symbol_alike allows = record {
  to = λ v word p. record { is_lawful = p.allowed; list = p.list };
  back = λ v word p. record { allowed = p.is_lawful; list = p.list };
}

-- a nature of distress reads back
pub nature_good : Good (Spelled IsNature (λ n. n ∷ []))
nature_good = alike_good _ _ (symbol_alike IsNature) (letter_good Nature)

-- subsequent communications read back
pub comm_good : Good (Spelled IsComm (λ n. n ∷ []))
comm_good = alike_good _ _ (symbol_alike IsComm) (letter_good Comm)
