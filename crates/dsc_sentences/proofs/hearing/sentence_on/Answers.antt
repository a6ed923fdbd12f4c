use Rattle.std.proofs.Common.{◌∙◌, sym, ap, subst, List, ℕ, ◌++◌, ◌∷◌, []}
use Rattle.dsc_sentences.specs.inside.Hearing.{IsHeardAsDsc, IsHeardAsDse}
use Rattle.dsc_sentences.proofs.Told.{told_too_long}
use Rattle.dsc_sentences.proofs.HeardLines.{heard_dse, heard_dsc, heard_too_long}
use Rattle.dsc_sentences.proofs.hearing.sentence_on.Goals as goal

pub returns-then-text : goal.returns-then-text
returns-then-text c =
    let line = c.args.line.now in
    let text = c.without_return-text.result.now in
    let is = c.without_return-text.ensures in
    heard_too_long line text _ is c.if-text.true (told_too_long line text is c.if-text.true)

pub returns-then-starts_with : goal.returns-then-starts_with
returns-then-starts_with c =
    let bytes = c.as_slice.ensures.value ∙ c.append_line_end.ensures ∙ ap (λ (l : List ℕ). l ++ 13 ∷ 10 ∷ []) c.without_return-text.ensures in
    heard_dse c.args.line.now c.heard_as_dse.result (sym c.if-starts_with.ensures.value) (subst (λ (l : List ℕ). IsHeardAsDse l c.heard_as_dse.result) bytes c.heard_as_dse.ensures)

pub returns-else-starts_with : goal.returns-else-starts_with
returns-else-starts_with c =
    let bytes = c.as_slice-else-starts_with.ensures.value ∙ c.append_line_end.ensures ∙ ap (λ (l : List ℕ). l ++ 13 ∷ 10 ∷ []) c.without_return-text.ensures in
    heard_dsc c.args.line.now c.heard_as_dsc.result (sym c.if-starts_with.ensures.value) (subst (λ (l : List ℕ). IsHeardAsDsc l c.heard_as_dsc.result) bytes c.heard_as_dsc.ensures)
