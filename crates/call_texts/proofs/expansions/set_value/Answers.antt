use Rattle.std.proofs.Common.{sym, ap, rules}
use Rattle.call_texts.specs.CallParts.{set_text}
use Rattle.call_texts.proofs.FieldSteps.{choice_shows, letters_show}
use Rattle.call_texts.proofs.expansions.set_value.Goals as goal

pub returns : goal.returns
returns c =
    let none = c.spelled-none.ensures in
    let told = c.set_digits-told.ensures in
    let shown = choice_shows (set_text c.args.width) (λ b. b.now) _ _ c.args.bytes.now _ _ _ c.further.ensures
    (letters_show _ _ _ _ _ _ (sym (ap (set_text c.args.width) c.none.ensures)) none.value none.rest none.left)
    (record { value = told.value; left = told.left }) in
    record { lawful = search rules; value = shown.value; left = shown.left }
