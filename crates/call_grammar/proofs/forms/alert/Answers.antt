use Rattle.symbol_reader.specs.declared.letters.Letter.TheVariants.{Exactly}
use Rattle.symbol_reader.proofs.Laws.{then_good, only_good}
use Rattle.symbol_reader.proofs.Steps.{letter_good, next, stop, fail, only_read}
use Rattle.dsc_symbols.specs.declared.ends.TheConstants.{EOS}
use Rattle.call_grammar.proofs.CasualtyParts.{casualty_good}
use Rattle.call_grammar.proofs.forms.alert.Goals as goal

pub returns-in_err-casualty : goal.returns-in_err-casualty
returns-in_err-casualty c = fail c.from_residual.ensures.1
    (stop casualty_good (λ _ _ _. then_good _ _ (letter_good (Exactly EOS)) (λ _ _ _. only_good _)) c.in_err-casualty.ensures)

pub returns-in_err-symbol : goal.returns-in_err-symbol
returns-in_err-symbol c = fail c.from_residual-in_err-symbol.ensures.1
    (next casualty_good c.in_ok-casualty.ensures
    (stop (letter_good (Exactly EOS)) (λ _ _ _. only_good _) c.in_err-symbol.ensures.reads))

pub returns : goal.returns
returns c =
    (next casualty_good c.in_ok-casualty.ensures
    (next (letter_good (Exactly EOS)) c.in_ok-symbol.ensures.reads
    (only_read _ _)))
