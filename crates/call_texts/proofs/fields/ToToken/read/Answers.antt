use Rattle.std.proofs.Common.{refl}
use Rattle.line_grammar.specs.inside.Reading.{read_token}
use Rattle.call_texts.specs.CallParts.{address_text}
use Rattle.call_texts.proofs.FieldSteps.{choice_shows, letters_show}
use Rattle.call_texts.proofs.fields.ToToken.read.Goals as goal

pub returns : goal.returns
unfolding read_token
returns c =
    let all = c.spelled-all.ensures in
    let area = c.to_area.ensures in
    let group = c.to_group.ensures in
    let one = c.to_one.ensures in
    let shown = choice_shows address_text (λ b. b.now) _ _ c.args.bytes.now _ _ _ c.further.ensures
    (letters_show _ _ _ _ _ _ refl all.value all.rest all.left)
    (choice_shows _ _ _ _ _ _ _ _ c.further-some.ensures (record { value = area.value; left = area.left })
    (choice_shows _ _ _ _ _ _ _ _ c.further-numbered.ensures (record { value = group.value; left = group.left }) (record { value = one.value; left = one.left }))) in
    record { value = shown.value; left = shown.left }
