use Rattle.std.proofs.Common.{◌∙◌, sym}
use Rattle.line_grammar.proofs.SectionSteps.{first_form, further_form}
use Rattle.call_texts.proofs.forms.message_and_end.Goals as goal

pub returns-then-is_ok : goal.returns-then-is_ok
returns-then-is_ok g c = first_form _ _ _ _ _ _ (sym c.is_ok.ensures.value ∙ c.if-is_ok.true) c.frequencies_and_end-frequencies.ensures

pub returns : goal.returns
returns g c = further_form _ _ _ _ _ _ _ _ c.further.ensures c.frequencies_and_end-frequencies.ensures c.position_and_end.ensures
