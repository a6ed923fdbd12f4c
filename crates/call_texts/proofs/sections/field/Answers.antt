use Rattle.line_grammar.proofs.SectionSteps.{no_label, field_answer}
use Rattle.call_texts.proofs.sections.field.Goals as goal

pub returns-in_err-whole_word : goal.returns-in_err-whole_word
returns-in_err-whole_word g c = no_label _ _ _ _ _ _ _ c.from_residual.ensures.1 c.in_err-whole_word.ensures.left

pub returns : goal.returns
returns g c =
    field_answer (λ b. b.now) _ _ _ _ _ _ _ _ _ c.in_ok-whole_word.ensures.read c.rest.ensures c.read.ensures.value c.read.ensures.left c.take.ensures.value c.take.ensures.left
