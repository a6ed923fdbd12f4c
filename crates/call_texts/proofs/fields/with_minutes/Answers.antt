use Rattle.call_texts.proofs.FieldSteps.{passed_on, first_missed, second_missed, pair_read}
use Rattle.call_texts.proofs.fields.with_minutes.Goals as goal

pub returns-in_err-whole-clause-left : goal.returns-in_err-whole-clause-left
returns-in_err-whole-clause-left c = passed_on _ _ _ c.from_residual.ensures.1 (first_missed _ _ _ _ c.in_err-whole.ensures.left)

pub returns-in_err-minutes-clause-left : goal.returns-in_err-minutes-clause-left
returns-in_err-minutes-clause-left c =
    passed_on _ _ _ c.from_residual-in_err-minutes.ensures.1
    (second_missed _ _ _ _ _ _ c.in_ok-whole.ensures.value c.in_err-minutes.ensures.left)

pub returns-clause-value : goal.returns-clause-value
returns-clause-value c = pair_read _ _ _ _ _ _ _ c.in_ok-whole.ensures.value c.in_ok-minutes.ensures.value
