use Rattle.std.proofs.lemmas.Bool.{ne_eqb}
use Rattle.symbol_reader.specs.declared.letters.Letter.TheVariants.{UpTo, UpToOr}
use Rattle.symbol_reader.proofs.Laws.{only_good}
use Rattle.symbol_reader.proofs.Steps.{letter_good, alike, next, stop, fail, not_chosen, only_read}
use Rattle.dsc_symbols.specs.declared.messages.TheConstants.{NO_INFORMATION}
use Rattle.expansion.specs.declared.parts.PartKind.TheVariants.{Digits}
use Rattle.expansion.specs.inside.Grammar.{eight_of}
use Rattle.expansion.proofs.DigitParts.{eight_alike, eight_rest_good, eight_third_good, eight_last_good}
use Rattle.expansion.proofs.readers.eight_digits.Goals as goal

pub returns-in_err-initial : goal.returns-in_err-initial
returns-in_err-initial c = fail c.from_residual.ensures.1 (alike eight_alike
    (stop (letter_good (UpToOr 99 NO_INFORMATION)) (λ a _ _. eight_rest_good a) c.in_err-initial.ensures.reads))

pub returns-in_err-b : goal.returns-in_err-b
returns-in_err-b c = fail c.from_residual-in_err-b.ensures.1 (alike eight_alike
    (next (letter_good (UpToOr 99 NO_INFORMATION)) c.in_ok-initial.ensures.reads
    (not_chosen (ne_eqb c.in_ok-initial.initial NO_INFORMATION c.if-initial-eq-NO_INFORMATION.false)
    (stop (letter_good (UpTo 99)) (λ x _ _. eight_third_good c.in_ok-initial.initial x) c.in_err-b.ensures.reads))))

pub returns-in_err-c : goal.returns-in_err-c
returns-in_err-c c = fail c.from_residual-in_err-c.ensures.1 (alike eight_alike
    (next (letter_good (UpToOr 99 NO_INFORMATION)) c.in_ok-initial.ensures.reads
    (not_chosen (ne_eqb c.in_ok-initial.initial NO_INFORMATION c.if-initial-eq-NO_INFORMATION.false)
    (next (letter_good (UpTo 99)) c.in_ok-b.ensures.reads
    (stop (letter_good (UpTo 99)) (λ x _ _. eight_last_good c.in_ok-initial.initial c.in_ok-b.b x) c.in_err-c.ensures.reads)))))

pub returns-in_err-d : goal.returns-in_err-d
returns-in_err-d c = fail c.from_residual-in_err-d.ensures.1 (alike eight_alike
    (next (letter_good (UpToOr 99 NO_INFORMATION)) c.in_ok-initial.ensures.reads
    (not_chosen (ne_eqb c.in_ok-initial.initial NO_INFORMATION c.if-initial-eq-NO_INFORMATION.false)
    (next (letter_good (UpTo 99)) c.in_ok-b.ensures.reads
    (next (letter_good (UpTo 99)) c.in_ok-c.ensures.reads
    (stop (letter_good (UpTo 99)) (λ x _ _. only_good (Digits (eight_of c.in_ok-initial.initial c.in_ok-b.b c.in_ok-c.c x))) c.in_err-d.ensures.reads))))))

pub returns : goal.returns
returns c = alike eight_alike
    (next (letter_good (UpToOr 99 NO_INFORMATION)) c.in_ok-initial.ensures.reads
    (not_chosen (ne_eqb c.in_ok-initial.initial NO_INFORMATION c.if-initial-eq-NO_INFORMATION.false)
    (next (letter_good (UpTo 99)) c.in_ok-b.ensures.reads
    (next (letter_good (UpTo 99)) c.in_ok-c.ensures.reads
    (next (letter_good (UpTo 99)) c.in_ok-d.ensures.reads
    (rw (c.digits.ensures, c.eight_of.ensures) (only_read _ _)))))))
