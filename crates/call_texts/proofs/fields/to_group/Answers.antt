use Rattle.line_grammar.specs.inside.Reading.{read_token}
use Rattle.call_texts.proofs.FieldSteps.{passed_on, letters_missed, letters_read, first_missed, second_missed, pair_read}
use Rattle.call_texts.proofs.fields.to_group.Goals as goal

pub returns-in_err-rest-clause-left : goal.returns-in_err-rest-clause-left
returns-in_err-rest-clause-left c =
    passed_on _ _ _ c.from_residual.ensures.1 (first_missed _ _ _ _ (letters_missed _ _ _ c.in_err-rest.ensures.left))

pub returns-in-Err-clause-left : goal.returns-in-Err-clause-left
unfolding read_token
returns-in-Err-clause-left c = second_missed _ _ _ _ _ _ (letters_read _ _ _ c.in_ok-rest.ensures.rest) c.in-Err.ensures.left

pub returns-clause-value : goal.returns-clause-value
unfolding read_token
returns-clause-value c = pair_read _ _ _ _ _ _ _ (letters_read _ _ _ c.in_ok-rest.ensures.rest) c.in-Ok.ensures.value
