use Rattle.line_grammar.specs.Grammar.{either}
use Rattle.call_texts.specs.CallGrammar as grammar
use Rattle.line_grammar.specs.Sections.{last}
use Rattle.call_texts.specs.inside.Reading.{parts_with}
use Rattle.line_grammar.proofs.SectionSteps.{further_form}
use Rattle.call_texts.proofs.forms.service.Goals as goal

pub returns : goal.returns
returns g c =
    further_form (grammar.test g.T.Tail.grammar) (either (grammar.position_request g.T.Tail.grammar) (grammar.position_answer g.T.Tail.grammar)) (last 8) (parts_with g.T.Tail.parts) _ _ _ _ c.further.ensures c.test.ensures
    (further_form (grammar.position_request g.T.Tail.grammar) (grammar.position_answer g.T.Tail.grammar) (last 9) (parts_with g.T.Tail.parts) _ _ _ _ c.further-positions.ensures c.position_request.ensures
    c.position_answer.ensures)
