use Rattle.symbol_reader.specs.declared.letters.Letter.TheVariants as letter
use Rattle.symbol_reader.proofs.Steps.{letter_good, alike, next, stop, fail}
use Rattle.call_grammar.proofs.FieldParts.{field_alike, field_rest_good}
use Rattle.call_grammar.proofs.messages.field.Goals as goal

pub returns-in_err-initial : goal.returns-in_err-initial
returns-in_err-initial c = fail c.from_residual.ensures.1
    (alike field_alike (stop (letter_good letter.Field) (λ _ _ _. field_rest_good _) c.in_err-initial.ensures.reads))

pub returns : goal.returns
returns c =
    (alike field_alike (next (letter_good letter.Field) c.in_ok-initial.ensures.reads
    (c.field_rest.ensures)))
