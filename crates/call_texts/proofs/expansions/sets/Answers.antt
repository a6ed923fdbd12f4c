use Rattle.line_grammar.specs.Grammar.{finish, either, second}
use Rattle.call_texts.specs.CallGrammar as grammar
use Rattle.call_texts.specs.CallGrammar.{perhaps}
use Rattle.call_texts.specs.inside.Expansions as inside
use Rattle.line_grammar.proofs.SectionSteps.{further_form}
use Rattle.call_texts.proofs.expansions.sets.Goals as goal

pub returns : goal.returns
returns c =
    let course = grammar.course finish in
    let speed = grammar.speed (perhaps grammar.course finish) in
    further_form (grammar.enhanced (perhaps grammar.speed (perhaps grammar.course finish))) (either speed course) (λ p. p) inside.sets _ _ _ _ c.further.ensures c.from_enhanced.ensures
    (further_form speed course second inside.sets _ _ _ _ c.further-behind_position.ensures c.from_speed.ensures c.from_course.ensures)
