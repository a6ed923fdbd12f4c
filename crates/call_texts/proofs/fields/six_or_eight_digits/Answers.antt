use Rattle.std.proofs.Common.{sym, ◌∙◌}
use Rattle.call_values.specs.declared.bounds.TheConstants.{SIX_DIGITS, EIGHT_DIGITS}
use Rattle.line_grammar.specs.Shapes.{fixed_number}
use Rattle.call_texts.specs.CallParts.{frequency_text}
use Rattle.call_texts.proofs.FieldSteps.{choice_shows, first_shows}
use Rattle.call_texts.proofs.fields.six_or_eight_digits.Goals as goal

pub returns-then-is_ok : goal.returns-then-is_ok
returns-then-is_ok c =
    let six = c.six_digits-six.ensures in
    let shown = first_shows frequency_text (λ b. b.now) (fixed_number 6 SIX_DIGITS) (fixed_number 8 EIGHT_DIGITS) c.args.bytes.now _ (sym c.is_ok.ensures.value ∙ c.if-is_ok.true) (record { value = six.value; left = six.left }) in
    record { value = shown.value; left = shown.left }

pub returns : goal.returns
returns c =
    let six = c.six_digits-six.ensures in
    let eight = c.eight_digits.ensures in
    let shown = choice_shows frequency_text (λ b. b.now) (fixed_number 6 SIX_DIGITS) (fixed_number 8 EIGHT_DIGITS) c.args.bytes.now _ _ _ c.further.ensures (record { value = six.value; left = six.left })
    (record { value = eight.value; left = eight.left }) in
    record { value = shown.value; left = shown.left }
