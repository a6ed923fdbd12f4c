use Rattle.std.proofs.Common.{arith}
use Rattle.symbol_reader.specs.declared.letters.Letter.TheVariants.{Exactly}
use Rattle.symbol_reader.proofs.Laws.{then_good}
use Rattle.symbol_reader.proofs.Steps.{letter_good, next, stop, fail}
use Rattle.dsc_symbols.specs.declared.messages.TheConstants.{NO_INFORMATION, POSITION_FOLLOWS}
use Rattle.call_grammar.proofs.CodedParts.{eithers_good}
use Rattle.call_grammar.proofs.FormParts as forms
use Rattle.call_grammar.proofs.individuals.position_call.Goals as goal

pub returns-in_err-symbol : goal.returns-in_err-symbol
returns-in_err-symbol c = fail c.from_residual.ensures.1
    (stop (letter_good (Exactly NO_INFORMATION)) (λ _ _ _. then_good _ _ (eithers_good POSITION_FOLLOWS NO_INFORMATION (λ e. omega (arith, e))) (λ _ _ _. (forms.after_told_closes _ _ _ _).good)) c.in_err-symbol.ensures.reads)

pub returns-in_err-is_told : goal.returns-in_err-is_told
returns-in_err-is_told c = fail c.from_residual-in_err-is_told.ensures.1
    (next (letter_good (Exactly NO_INFORMATION)) c.in_ok-symbol.ensures.reads
    (stop (eithers_good POSITION_FOLLOWS NO_INFORMATION (λ e. omega (arith, e))) (λ _ _ _. (forms.after_told_closes _ _ _ _).good) c.in_err-is_told.ensures))

pub returns : goal.returns
returns c =
    (next (letter_good (Exactly NO_INFORMATION)) c.in_ok-symbol.ensures.reads
    (next (eithers_good POSITION_FOLLOWS NO_INFORMATION (λ e. omega (arith, e))) c.in_ok-is_told.ensures
    (c.after_told.ensures)))
