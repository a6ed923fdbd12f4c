use Rattle.symbol_reader.specs.declared.letters.Letter.TheVariants.{Exactly}
use Rattle.symbol_reader.proofs.Laws.{then_good, only_good}
use Rattle.symbol_reader.proofs.Steps.{letter_good, next, stop, fail, only_read}
use Rattle.dsc_symbols.specs.declared.messages.TheConstants.{NO_INFORMATION}
use Rattle.call_grammar.proofs.symbols.blanks.Goals as goal

pub returns-in_err-symbol : goal.returns-in_err-symbol
returns-in_err-symbol c = fail c.from_residual.ensures.1
    (stop (letter_good (Exactly NO_INFORMATION)) (λ _ _ _. then_good _ _ (letter_good (Exactly NO_INFORMATION)) (λ _ _ _. then_good _ _ (letter_good (Exactly NO_INFORMATION)) (λ _ _ _. then_good _ _ (letter_good (Exactly NO_INFORMATION)) (λ _ _ _. then_good _ _ (letter_good (Exactly NO_INFORMATION)) (λ _ _ _. only_good tt))))) c.in_err-symbol.ensures.reads)

pub returns-in_err-symbol-2 : goal.returns-in_err-symbol-2
returns-in_err-symbol-2 c = fail c.from_residual-in_err-symbol-2.ensures.1
    (next (letter_good (Exactly NO_INFORMATION)) c.in_ok-symbol.ensures.reads
    (stop (letter_good (Exactly NO_INFORMATION)) (λ _ _ _. then_good _ _ (letter_good (Exactly NO_INFORMATION)) (λ _ _ _. then_good _ _ (letter_good (Exactly NO_INFORMATION)) (λ _ _ _. then_good _ _ (letter_good (Exactly NO_INFORMATION)) (λ _ _ _. only_good tt)))) c.in_err-symbol-2.ensures.reads))

pub returns-in_err-symbol-3 : goal.returns-in_err-symbol-3
returns-in_err-symbol-3 c = fail c.from_residual-in_err-symbol-3.ensures.1
    (next (letter_good (Exactly NO_INFORMATION)) c.in_ok-symbol.ensures.reads
    (next (letter_good (Exactly NO_INFORMATION)) c.in_ok-symbol-2.ensures.reads
    (stop (letter_good (Exactly NO_INFORMATION)) (λ _ _ _. then_good _ _ (letter_good (Exactly NO_INFORMATION)) (λ _ _ _. then_good _ _ (letter_good (Exactly NO_INFORMATION)) (λ _ _ _. only_good tt))) c.in_err-symbol-3.ensures.reads)))

pub returns-in_err-symbol-4 : goal.returns-in_err-symbol-4
returns-in_err-symbol-4 c = fail c.from_residual-in_err-symbol-4.ensures.1
    (next (letter_good (Exactly NO_INFORMATION)) c.in_ok-symbol.ensures.reads
    (next (letter_good (Exactly NO_INFORMATION)) c.in_ok-symbol-2.ensures.reads
    (next (letter_good (Exactly NO_INFORMATION)) c.in_ok-symbol-3.ensures.reads
    (stop (letter_good (Exactly NO_INFORMATION)) (λ _ _ _. then_good _ _ (letter_good (Exactly NO_INFORMATION)) (λ _ _ _. only_good tt)) c.in_err-symbol-4.ensures.reads))))

pub returns-in_err-symbol-5 : goal.returns-in_err-symbol-5
returns-in_err-symbol-5 c = fail c.from_residual-in_err-symbol-5.ensures.1
    (next (letter_good (Exactly NO_INFORMATION)) c.in_ok-symbol.ensures.reads
    (next (letter_good (Exactly NO_INFORMATION)) c.in_ok-symbol-2.ensures.reads
    (next (letter_good (Exactly NO_INFORMATION)) c.in_ok-symbol-3.ensures.reads
    (next (letter_good (Exactly NO_INFORMATION)) c.in_ok-symbol-4.ensures.reads
    (stop (letter_good (Exactly NO_INFORMATION)) (λ _ _ _. only_good tt) c.in_err-symbol-5.ensures.reads)))))

pub returns : goal.returns
returns c =
    (next (letter_good (Exactly NO_INFORMATION)) c.in_ok-symbol.ensures.reads
    (next (letter_good (Exactly NO_INFORMATION)) c.in_ok-symbol-2.ensures.reads
    (next (letter_good (Exactly NO_INFORMATION)) c.in_ok-symbol-3.ensures.reads
    (next (letter_good (Exactly NO_INFORMATION)) c.in_ok-symbol-4.ensures.reads
    (next (letter_good (Exactly NO_INFORMATION)) c.in_ok-symbol-5.ensures.reads
    (only_read _ _))))))
