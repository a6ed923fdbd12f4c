use Rattle.std.proofs.Common.{◌∙◌, sym, ap}
use Rattle.call_values.specs.declared.bounds.TheConstants.{SIX_DIGITS, EIGHT_DIGITS}
use Rattle.line_grammar.specs.Shapes.{choice, fixed_number}
use Rattle.line_grammar.specs.inside.Reading.{read_token}
use Rattle.call_texts.specs.CallParts.{frequency_text}
use Rattle.call_texts.proofs.FieldSteps.{choice_shows, first_shows, letters_show}
use Rattle.call_texts.proofs.fields.FieldToken.read.Goals as goal

pub returns-then-is_ok : goal.returns-then-is_ok
unfolding read_token
returns-then-is_ok c =
    let absent = c.spelled-absent.ensures in
    let shown = first_shows frequency_text (λ b. b.now) _ (choice (fixed_number 6 SIX_DIGITS) (fixed_number 8 EIGHT_DIGITS)) c.args.bytes.now _ (sym c.is_ok.ensures.value ∙ c.if-is_ok.true)
    (letters_show _ _ _ _ _ _ (sym (ap frequency_text c.absent.ensures)) absent.value absent.rest absent.left) in
    record { value = shown.value; left = shown.left }

pub returns : goal.returns
unfolding read_token
returns c =
    let absent = c.spelled-absent.ensures in
    let told = c.six_or_eight_digits.ensures in
    let shown = choice_shows frequency_text (λ b. b.now) _ _ c.args.bytes.now _ _ _ c.further.ensures
    (letters_show _ _ _ _ _ _ (sym (ap frequency_text c.absent.ensures)) absent.value absent.rest absent.left) (record { value = told.value; left = told.left }) in
    record { value = shown.value; left = shown.left }
