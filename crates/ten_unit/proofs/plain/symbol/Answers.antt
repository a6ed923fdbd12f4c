use Rattle.std.proofs.Common.{◌≡◌, ap, ◌∙◌, refl, true}
use Rattle.ten_unit.specs.Word.{is_word}
use Rattle.ten_unit.proofs.Reading.{word_value}
use Rattle.ten_unit.proofs.plain.symbol.Goals as goal

pub returns-clause-only : goal.returns-clause-only
returns-clause-only c = λ v below is.
    let same : c.value-value.result ≡ v = c.value-value.ensures.value ∙ word_value c.args.w.now v below is in
    let yes : c.is_word.result ≡ true = c.is_word.ensures ∙ ap (is_word c.args.w.now) same ∙ is in
    c.then_some.ensures ∙ rw (yes, same) refl
