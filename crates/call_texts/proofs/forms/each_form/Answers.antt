use Rattle.line_grammar.specs.Sections.{last}
use Rattle.call_texts.specs.inside.Reading.{parts_with}
use Rattle.line_grammar.proofs.SectionSteps.{further_form}
use Rattle.call_texts.proofs.forms.each_form.Goals as goal

pub returns : goal.returns
returns g c =
    further_form _ _ (last 0) (parts_with g.T.Tail.parts) _ _ _ _ c.further.ensures c.alert.ensures (
    further_form _ _ (last 1) (parts_with g.T.Tail.parts) _ _ _ _ c.further-distress.ensures c.ack.ensures (
    further_form _ _ (last 2) (parts_with g.T.Tail.parts) _ _ _ _ c.further-relays.ensures c.relay.ensures (
    further_form _ _ (last 3) (parts_with g.T.Tail.parts) _ _ _ _ c.further-others.ensures c.relay_ack.ensures c.other_call.ensures)))
