use Rattle.std.proofs.Common.{codes, sym, ap, ◌∙◌}
use Rattle.line_grammar.specs.Shapes.{letters}
use Rattle.line_grammar.specs.inside.Reading.{read_token}
use Rattle.call_texts.specs.CallParts.{time_text}
use Rattle.call_texts.proofs.FieldSteps.{choice_shows, first_shows, letters_show}
use Rattle.call_texts.proofs.fields.HourMinuteToken.read.Goals as goal

pub returns-then-is_ok : goal.returns-then-is_ok
unfolding read_token
returns-then-is_ok c =
    let known = c.known_time-known.ensures in
    let shown = first_shows time_text (λ b. b.now) _ (letters (codes "8888")) c.args.bytes.now _ (sym c.is_ok.ensures.value ∙ c.if-is_ok.true)
    (record { value = known.value; left = known.left }) in
    record { value = shown.value; left = shown.left }

pub returns : goal.returns
unfolding read_token
returns c =
    let known = c.known_time-known.ensures in
    let unknown = c.spelled-unknown.ensures in
    let shown = choice_shows time_text (λ b. b.now) _ _ c.args.bytes.now _ _ _ c.further.ensures
    (record { value = known.value; left = known.left })
    (letters_show _ _ _ _ _ _ (sym (ap time_text c.unknown.ensures)) unknown.value unknown.rest unknown.left) in
    record { value = shown.value; left = shown.left }
