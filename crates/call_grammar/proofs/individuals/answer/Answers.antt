use Rattle.symbol_reader.specs.declared.letters.Letter.TheVariants.{Exactly}
use Rattle.symbol_reader.proofs.Laws.{then_good, only_good}
use Rattle.symbol_reader.proofs.Steps.{letter_good, next, stop, fail, only_read}
use Rattle.dsc_symbols.specs.declared.ends.TheConstants.{ACKNOWLEDGE_BQ}
use Rattle.call_grammar.proofs.PositionParts.{position_good}
use Rattle.call_grammar.proofs.TimeParts.{time_good}
use Rattle.call_grammar.proofs.individuals.answer.Goals as goal

pub returns-in_err-position : goal.returns-in_err-position
returns-in_err-position c = fail c.from_residual.ensures.1
    (stop position_good (λ _ _ _. then_good _ _ time_good (λ _ _ _. then_good _ _ (letter_good (Exactly ACKNOWLEDGE_BQ)) (λ _ _ _. only_good _))) c.in_err-position.ensures)

pub returns-in_err-time : goal.returns-in_err-time
returns-in_err-time c = fail c.from_residual-in_err-time.ensures.1
    (next position_good c.in_ok-position.ensures
    (stop time_good (λ _ _ _. then_good _ _ (letter_good (Exactly ACKNOWLEDGE_BQ)) (λ _ _ _. only_good _)) c.in_err-time.ensures))

pub returns-in_err-symbol : goal.returns-in_err-symbol
returns-in_err-symbol c = fail c.from_residual-in_err-symbol.ensures.1
    (next position_good c.in_ok-position.ensures
    (next time_good c.in_ok-time.ensures
    (stop (letter_good (Exactly ACKNOWLEDGE_BQ)) (λ _ _ _. only_good _) c.in_err-symbol.ensures.reads)))

pub returns : goal.returns
returns c =
    (next position_good c.in_ok-position.ensures
    (next time_good c.in_ok-time.ensures
    (next (letter_good (Exactly ACKNOWLEDGE_BQ)) c.in_ok-symbol.ensures.reads
    (only_read _ _))))
