use Rattle.symbol_reader.specs.declared.letters.Letter.TheVariants.{Exactly}
use Rattle.symbol_reader.proofs.Laws.{then_good, only_good}
use Rattle.symbol_reader.proofs.Steps.{letter_good, next, stop, fail, only_read}
use Rattle.dsc_symbols.specs.declared.ends.TheConstants.{ACKNOWLEDGE_RQ}
use Rattle.call_grammar.proofs.CodedParts.{blanks_good}
use Rattle.call_grammar.proofs.individuals.question.Goals as goal

pub returns-in_err-blanks : goal.returns-in_err-blanks
returns-in_err-blanks c = fail c.from_residual.ensures.1
    (stop (blanks_good 5) (λ _ _ _. then_good _ _ (letter_good (Exactly ACKNOWLEDGE_RQ)) (λ _ _ _. only_good _)) c.in_err-blanks.ensures)

pub returns-in_err-symbol : goal.returns-in_err-symbol
returns-in_err-symbol c = fail c.from_residual-in_err-symbol.ensures.1
    (next (blanks_good 5) c.in_ok-blanks.ensures
    (stop (letter_good (Exactly ACKNOWLEDGE_RQ)) (λ _ _ _. only_good _) c.in_err-symbol.ensures.reads))

pub returns : goal.returns
returns c =
    (next (blanks_good 5) c.in_ok-blanks.ensures
    (next (letter_good (Exactly ACKNOWLEDGE_RQ)) c.in_ok-symbol.ensures.reads
    (only_read _ _)))
