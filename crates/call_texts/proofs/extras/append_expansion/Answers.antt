use Rattle.call_texts.proofs.ExpansionSteps.{expansion_appended}
use Rattle.call_texts.proofs.extras.append_expansion.Goals as goal

pub returns-clause-items : goal.returns-clause-items
returns-clause-items g c =
    expansion_appended _ _ _ _ _ _ _ _ _ c.lawful.ensures c.enhanced.ensures.value c.speed.ensures.value c.course.ensures.value
    c.append.ensures.items c.append_set.ensures.items c.append_set-2.ensures.items c.append_set-3.ensures.items
