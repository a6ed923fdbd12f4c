use Rattle.line_grammar.specs.Grammar.{finish, second, none}
use Rattle.call_texts.specs.CallGrammar as grammar
use Rattle.call_texts.specs.inside.Expansions as inside
use Rattle.call_texts.proofs.ExpansionSteps.{moved, there_parts}
use Rattle.line_grammar.proofs.SectionSteps.{further_form}
use Rattle.call_texts.proofs.expansions.perhaps_course.Goals as goal

pub returns-clause-reads : goal.returns-clause-reads
returns-clause-reads c =
    further_form finish (grammar.course finish) (λ p. p) inside.perhaps_course _ _ _ _ c.further.ensures c.no_course.ensures.reads
    (moved (grammar.course finish) second inside.course inside.perhaps_course _ _ (λ x h. there_parts 4 x none h.0) c.course.ensures.lawful c.course.ensures.reads)
