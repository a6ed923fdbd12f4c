use Rattle.call_texts.proofs.FieldSteps.{passed_on, letters_missed, letters_read}
use Rattle.call_texts.proofs.fields.spelled.Goals as goal

pub returns-in_err-rest-clause-left : goal.returns-in_err-rest-clause-left
returns-in_err-rest-clause-left g c = passed_on _ _ _ c.from_residual.ensures.1 (letters_missed _ _ _ c.in_err-rest.ensures.left)

pub returns-clause-rest : goal.returns-clause-rest
returns-clause-rest g c = letters_read _ _ _ c.in_ok-rest.ensures.rest
