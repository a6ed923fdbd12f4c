use Rattle.symbol_reader.proofs.Steps.{alike, next, stop, fail}
use Rattle.call_grammar.proofs.CodedParts.{formats_good}
use Rattle.call_grammar.proofs.FormParts as forms
use Rattle.call_grammar.proofs.CallParts.{call_alike}
use Rattle.call_grammar.proofs.forms.checked_characters.Goals as goal

pub returns-in_err-format : goal.returns-in_err-format
returns-in_err-format c = fail c.from_residual.ensures.1
    (alike call_alike (stop formats_good (λ _ _ _. (forms.after_format_closes _).good) c.in_err-format.ensures))

pub returns : goal.returns
returns c =
    (alike call_alike (next formats_good c.in_ok-format.ensures
    (c.after_format.ensures)))
