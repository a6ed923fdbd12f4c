use Rattle.symbol_reader.specs.declared.letters.Letter.TheVariants.{Exactly}
use Rattle.symbol_reader.proofs.Laws.{only_good}
use Rattle.symbol_reader.proofs.Steps.{letter_good, next, stop, fail, only_read}
use Rattle.symbol_reader.proofs.Closings.{last_good, ends_good}
use Rattle.symbol_reader.proofs.endings.closing.Goals as goal

pub returns-in_err-symbol : goal.returns-in_err-symbol
returns-in_err-symbol c = fail c.from_residual.ensures.1
    (stop (letter_good (Exactly c.args.check)) (λ _ _ _. ends_good c.args.end) c.in_err-symbol.ensures.reads)

pub returns-in_err-symbol-2 : goal.returns-in_err-symbol-2
returns-in_err-symbol-2 c = fail c.from_residual-in_err-symbol-2.ensures.1
    (next (letter_good (Exactly c.args.check)) c.in_ok-symbol.ensures.reads
    (stop (letter_good (Exactly c.args.end)) (λ _ _ _. last_good c.args.end) c.in_err-symbol-2.ensures.reads))

pub returns-in_err-symbol-3 : goal.returns-in_err-symbol-3
returns-in_err-symbol-3 c = fail c.from_residual-in_err-symbol-3.ensures.1
    (next (letter_good (Exactly c.args.check)) c.in_ok-symbol.ensures.reads
    (next (letter_good (Exactly c.args.end)) c.in_ok-symbol-2.ensures.reads
    (stop (letter_good (Exactly c.args.end)) (λ _ _ _. only_good tt) c.in_err-symbol-3.ensures.reads)))

pub returns : goal.returns
returns c =
    next (letter_good (Exactly c.args.check)) c.in_ok-symbol.ensures.reads
    (next (letter_good (Exactly c.args.end)) c.in_ok-symbol-2.ensures.reads
    (next (letter_good (Exactly c.args.end)) c.in_ok-symbol-3.ensures.reads
    (only_read tt _)))
