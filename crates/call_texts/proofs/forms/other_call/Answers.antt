use Rattle.line_grammar.specs.Sections.{last}
use Rattle.call_texts.specs.inside.Reading.{parts_with}
use Rattle.line_grammar.proofs.SectionSteps.{further_form}
use Rattle.call_texts.proofs.forms.other_call.Goals as goal

pub returns : goal.returns
returns g c =
    further_form _ _ (last 4) (parts_with g.T.Tail.parts) _ _ _ _ c.further.ensures c.all_ships.ensures (
    further_form _ _ (last 5) (parts_with g.T.Tail.parts) _ _ _ _ c.further-to_others.ensures c.area_call.ensures (
    further_form _ _ (last 6) (parts_with g.T.Tail.parts) _ _ _ _ c.further-to_some.ensures c.group_call.ensures (
    further_form _ _ (last 7) (parts_with g.T.Tail.parts) _ _ _ _ c.further-to_one.ensures c.individual.ensures c.service.ensures)))
