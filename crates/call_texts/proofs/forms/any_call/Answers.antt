use Rattle.std.proofs.Common.{◌∙◌, sym}
use Rattle.line_grammar.specs.Sections.{last}
use Rattle.line_grammar.proofs.Fronts.{found_read}
use Rattle.call_texts.specs.CallGrammar as grammar
use Rattle.call_texts.specs.inside.Reading.{parts_with}
use Rattle.call_texts.proofs.forms.any_call.Goals as goal

pub returns-then-is_ok : goal.returns-then-is_ok
returns-then-is_ok g c =
    found_read (parts_with g.T.Tail.parts) _ (last 0) (grammar.calls g.T.Tail.grammar) _ (sym c.is_ok.ensures.value ∙ c.if-is_ok.true) c.told_form-told.ensures
