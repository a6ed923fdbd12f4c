use Rattle.line_grammar.specs.Grammar.{finish, second}
use Rattle.call_texts.specs.CallGrammar as grammar
use Rattle.call_texts.specs.CallGrammar.{perhaps}
use Rattle.call_texts.specs.inside.Expansions as inside
use Rattle.call_texts.proofs.ExpansionSteps.{moved, there_parts}
use Rattle.line_grammar.proofs.SectionSteps.{further_form}
use Rattle.call_texts.proofs.expansions.perhaps_speed.Goals as goal

pub returns-clause-reads : goal.returns-clause-reads
returns-clause-reads c =
    further_form (perhaps grammar.course finish) (grammar.speed (perhaps grammar.course finish)) (λ p. p) inside.perhaps_speed _ _ _ _ c.further.ensures c.no_speed.ensures.reads
    (moved (grammar.speed (perhaps grammar.course finish)) second inside.speed inside.perhaps_speed _ _ (λ x h. there_parts 4 x.0 (inside.perhaps_course x.1) h.0.0) c.speed.ensures.lawful c.speed.ensures.reads)
