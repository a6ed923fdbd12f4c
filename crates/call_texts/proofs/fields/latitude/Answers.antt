use Rattle.std.proofs.Common.{ℕ, ◌++◌, refl, sym, ◌∙◌, codes, rules}
use Rattle.line_grammar.specs.Shapes.{letters, digits}
use Rattle.call_texts.proofs.FieldSteps.{choice_shows, first_shows, letters_show}
use Rattle.call_texts.proofs.fields.latitude.Goals as goal

pub returns-then-is_ok : goal.returns-then-is_ok
returns-then-is_ok c =
    let below = c.with_minutes-below.ensures in
    let shown = first_shows (λ (a : ℕ × ℕ). digits 2 a.0 ++ digits 2 a.1) (λ b. b.now) _ (letters (codes "9000")) c.args.bytes.now _ (sym c.is_ok.ensures.value ∙ c.if-is_ok.true)
    (record { value = below.value; left = below.left }) in
    record { range = search rules; value = shown.value; left = shown.left }

pub returns : goal.returns
unfolding digits
returns c =
    let below = c.with_minutes-below.ensures in
    let pole = c.spelled-pole.ensures in
    let shown = choice_shows (λ (a : ℕ × ℕ). digits 2 a.0 ++ digits 2 a.1) (λ b. b.now) _ _ c.args.bytes.now _ _ _ c.further.ensures
    (record { value = below.value; left = below.left }) (letters_show _ _ (90, 0) _ _ _ refl pole.value pole.rest pole.left) in
    record { range = search rules; value = shown.value; left = shown.left }
