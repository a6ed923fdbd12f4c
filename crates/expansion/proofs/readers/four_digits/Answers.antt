use Rattle.symbol_reader.specs.declared.letters.Letter.TheVariants.{UpTo, UpToOr}
use Rattle.std.proofs.Common.{◌+◌, ◌*◌}
use Rattle.std.proofs.lemmas.Bool.{ne_eqb}
use Rattle.symbol_reader.proofs.Laws.{only_good}
use Rattle.symbol_reader.proofs.Steps.{letter_good, alike, next, stop, fail, not_chosen, only_read}
use Rattle.dsc_symbols.specs.declared.messages.TheConstants.{NO_INFORMATION}
use Rattle.expansion.specs.declared.parts.PartKind.TheVariants.{Digits}
use Rattle.expansion.proofs.DigitParts.{four_alike, four_rest_good}
use Rattle.expansion.proofs.readers.four_digits.Goals as goal

pub returns-in_err-initial : goal.returns-in_err-initial
returns-in_err-initial c = fail c.from_residual.ensures.1 (alike (four_alike c.args.most c.requires)
    (stop (letter_good (UpToOr c.args.most NO_INFORMATION)) (λ a _ _. four_rest_good a) c.in_err-initial.ensures.reads))

pub returns-in_err-last : goal.returns-in_err-last
returns-in_err-last c = fail c.from_residual-in_err-last.ensures.1 (alike (four_alike c.args.most c.requires)
    (next (letter_good (UpToOr c.args.most NO_INFORMATION)) c.in_ok-initial.ensures.reads
    (not_chosen (ne_eqb c.in_ok-initial.initial NO_INFORMATION c.if-initial-eq-NO_INFORMATION.false)
    (stop (letter_good (UpTo 99)) (λ x _ _. only_good (Digits (c.in_ok-initial.initial * 100 + x))) c.in_err-last.ensures.reads))))

pub returns : goal.returns
returns c = alike (four_alike c.args.most c.requires)
    (next (letter_good (UpToOr c.args.most NO_INFORMATION)) c.in_ok-initial.ensures.reads
    (not_chosen (ne_eqb c.in_ok-initial.initial NO_INFORMATION c.if-initial-eq-NO_INFORMATION.false)
    (next (letter_good (UpTo 99)) c.in_ok-last.ensures.reads
    (rw (c.digits.ensures, c.from.ensures, c.from-2.ensures) (only_read _ _)))))
