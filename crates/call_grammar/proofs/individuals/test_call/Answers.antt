use Rattle.std.proofs.Common.{arith}
use Rattle.symbol_reader.specs.declared.letters.Letter.TheVariants.{Exactly}
use Rattle.symbol_reader.proofs.Laws.{then_good, only_good}
use Rattle.symbol_reader.proofs.Steps.{letter_good, next, stop, fail, only_read}
use Rattle.dsc_symbols.specs.declared.ends.TheConstants.{ACKNOWLEDGE_BQ, ACKNOWLEDGE_RQ}
use Rattle.dsc_symbols.specs.declared.messages.TheConstants.{NO_INFORMATION}
use Rattle.call_grammar.proofs.CodedParts.{eithers_good, blanks_good}
use Rattle.call_grammar.proofs.individuals.test_call.Goals as goal

pub returns-in_err-symbol : goal.returns-in_err-symbol
returns-in_err-symbol c = fail c.from_residual.ensures.1
    (stop (letter_good (Exactly NO_INFORMATION)) (λ _ _ _. then_good _ _ (letter_good (Exactly NO_INFORMATION)) (λ _ _ _. then_good _ _ (blanks_good 5) (λ _ _ _. then_good _ _ (eithers_good ACKNOWLEDGE_BQ ACKNOWLEDGE_RQ (λ e. omega (arith, e))) (λ _ _ _. only_good _)))) c.in_err-symbol.ensures.reads)

pub returns-in_err-symbol-2 : goal.returns-in_err-symbol-2
returns-in_err-symbol-2 c = fail c.from_residual-in_err-symbol-2.ensures.1
    (next (letter_good (Exactly NO_INFORMATION)) c.in_ok-symbol.ensures.reads
    (stop (letter_good (Exactly NO_INFORMATION)) (λ _ _ _. then_good _ _ (blanks_good 5) (λ _ _ _. then_good _ _ (eithers_good ACKNOWLEDGE_BQ ACKNOWLEDGE_RQ (λ e. omega (arith, e))) (λ _ _ _. only_good _))) c.in_err-symbol-2.ensures.reads))

pub returns-in_err-blanks : goal.returns-in_err-blanks
returns-in_err-blanks c = fail c.from_residual-in_err-blanks.ensures.1
    (next (letter_good (Exactly NO_INFORMATION)) c.in_ok-symbol.ensures.reads
    (next (letter_good (Exactly NO_INFORMATION)) c.in_ok-symbol-2.ensures.reads
    (stop (blanks_good 5) (λ _ _ _. then_good _ _ (eithers_good ACKNOWLEDGE_BQ ACKNOWLEDGE_RQ (λ e. omega (arith, e))) (λ _ _ _. only_good _)) c.in_err-blanks.ensures)))

pub returns-in_err-reply : goal.returns-in_err-reply
returns-in_err-reply c = fail c.from_residual-in_err-reply.ensures.1
    (next (letter_good (Exactly NO_INFORMATION)) c.in_ok-symbol.ensures.reads
    (next (letter_good (Exactly NO_INFORMATION)) c.in_ok-symbol-2.ensures.reads
    (next (blanks_good 5) c.in_ok-blanks.ensures
    (stop (eithers_good ACKNOWLEDGE_BQ ACKNOWLEDGE_RQ (λ e. omega (arith, e))) (λ _ _ _. only_good _) c.in_err-reply.ensures))))

pub returns : goal.returns
returns c =
    (next (letter_good (Exactly NO_INFORMATION)) c.in_ok-symbol.ensures.reads
    (next (letter_good (Exactly NO_INFORMATION)) c.in_ok-symbol-2.ensures.reads
    (next (blanks_good 5) c.in_ok-blanks.ensures
    (next (eithers_good ACKNOWLEDGE_BQ ACKNOWLEDGE_RQ (λ e. omega (arith, e))) c.in_ok-reply.ensures
    (only_read _ _)))))
