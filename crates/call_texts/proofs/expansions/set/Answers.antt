use Rattle.line_grammar.specs.inside.Reading.{read_token}
use Rattle.line_grammar.proofs.SectionSteps.{no_label, field_answer}
use Rattle.call_texts.proofs.expansions.set.Goals as goal

pub returns-in_err-word-clause-reads : goal.returns-in_err-word-clause-reads
returns-in_err-word-clause-reads c = no_label _ _ _ _ _ _ _ c.from_residual.ensures.1 c.in_err-word.ensures.left

pub returns-clause-reads : goal.returns-clause-reads
unfolding read_token
returns-clause-reads c =
    field_answer (λ b. b.now) _ _ _ _ _ _ _ _ _ c.in_ok-word.ensures.read c.rest.ensures c.set_value.ensures.value c.set_value.ensures.left c.take.ensures.value c.take.ensures.left
