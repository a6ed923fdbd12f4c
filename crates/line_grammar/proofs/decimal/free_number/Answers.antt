use Rattle.std.proofs.Common.{◌∷◌, [], refl}
use Rattle.line_grammar.proofs.DigitSteps.{number_end, number_zero, number_no_zero, number_none, number_low, number_ok}
use Rattle.line_grammar.proofs.decimal.free_number.Goals as goal

pub returns-in_default-clause-left : goal.returns-in_default-clause-left
returns-in_default-clause-left c = number_end _ _ _ c.in_default.ensures.cases

pub returns-then-least-eq0-clause-number : goal.returns-then-least-eq0-clause-number
returns-then-least-eq0-clause-number c =
    (48 ∷ [], number_zero _ _ _ _ _ c.in-Some.ensures.cases.0 c.if-first-eq48.true c.if-least-eq0.true, refl)

pub returns-else-least-eq0-clause-left : goal.returns-else-least-eq0-clause-left
returns-else-least-eq0-clause-left c = number_no_zero _ _ _ _ _ c.in-Some.ensures.cases.0 c.if-first-eq48.true c.if-least-eq0.false

pub returns-in_default-with_digit-clause-left : goal.returns-in_default-with_digit-clause-left
returns-in_default-with_digit-clause-left c =
    number_none _ _ _ _ _ c.in-Some.ensures.cases.0 c.if-first-eq48.false c.in_default-with_digit.ensures

pub returns-then-number-least-clause-left : goal.returns-then-number-least-clause-left
returns-then-number-least-clause-left c =
    let begun = c.in-Some-with_digit.ensures in
    number_low _ _ _ _ _ _ _ _ c.in-Some.ensures.cases.0 c.if-first-eq48.false begun.1 begun.2 c.more_digits-number.ensures.digits c.if-number-least.true

pub returns-clause-number : goal.returns-clause-number
returns-clause-number c =
    let begun = c.in-Some-with_digit.ensures in
    number_ok _ _ _ _ _ _ _ _ c.in-Some.ensures.cases.0 c.if-first-eq48.false begun.1 begun.2 c.more_digits-number.ensures.digits c.if-number-least.false
