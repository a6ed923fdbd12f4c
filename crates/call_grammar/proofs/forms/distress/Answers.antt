use Rattle.symbol_reader.proofs.Steps.{next, stop, fail}
use Rattle.call_grammar.proofs.IdentityParts.{identity_good}
use Rattle.call_grammar.proofs.FormParts as forms
use Rattle.call_grammar.proofs.forms.distress.Goals as goal

pub returns-in_err-from : goal.returns-in_err-from
returns-in_err-from c = fail c.from_residual.ensures.1
    (stop identity_good (λ _ _ _. (forms.after_relayer_closes _ _).good) c.in_err-from.ensures)

pub returns : goal.returns
returns c =
    (next identity_good c.in_ok-from.ensures
    (c.after_relayer.ensures))
