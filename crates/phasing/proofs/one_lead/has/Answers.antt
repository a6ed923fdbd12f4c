use Rattle.std.proofs.Common.{List, ◌∙◌, ap}
use Rattle.ten_unit.specs.declared.character.Element.{Element}
use Rattle.ten_unit.specs.Word.{elements_eq, is_word, word_of}
use Rattle.phasing.specs.Slot.{shows}
use Rattle.phasing.proofs.one_lead.has.Goals as goal

pub returns : goal.returns
unfolding shows is_word
returns c = λ v same.
    c.is_same.ensures ∙ ap (elements_eq c.elements.result.now) same
    ∙ ap (λ (w : List Element). elements_eq w (word_of v)) c.elements.ensures
