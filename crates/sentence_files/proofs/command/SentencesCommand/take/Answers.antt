use Rattle.std.proofs.Common.{◌++◌, ◌∷◌, [], ap, sym, subst, ◌∙◌, append_assoc}
use Rattle.sentence_files.specs.Telling.{line_text}
use Rattle.sentence_files.specs.inside.Progress.{HasTold}
use Rattle.sentence_files.proofs.Told.{more_told}
use Rattle.sentence_files.proofs.command.SentencesCommand.take.Goals as goal

pub returns-in_ok-append_answer-in-Ok-clause-stands : goal.returns-in_ok-append_answer-in-Ok-clause-stands
returns-in_ok-append_answer-in-Ok-clause-stands c = λ lines written h.
    let line = c.args.line.now in
    let old = c.args.out.now.items in
    let given = line_text c.in-Ok.says in
    let told = ap (λ t. written ++ t) c.in_ok-append_answer-in-Ok.ensures.text ∙ sym (append_assoc written old given) in
    subst (λ t. HasTold c.append_answer.new.self.refused (lines ++ line ∷ []) t) (sym told)
    (subst (λ b. HasTold b (lines ++ line ∷ []) ((written ++ old) ++ given)) (sym c.in_ok-append_answer-in-Ok.ensures.refused)
    (more_told c.args.self.now.refused lines (written ++ old) line c.in-Ok.says h c.in-Ok.ensures))
