use Rattle.slot_join.proofs.AnswerOfEnds.{Laws, answer_too}
use Rattle.slot_join.proofs.laws.alike_facts_have_one_answer.Goals as goal

pub returns : goal.returns
returns c = λ F G answer alike.
    let kept = c.ends_are_kept.ensures in
    let laws : Laws = record { kept = kept.kept; itself = kept.itself; unions = kept.unions; sheet = kept.sheet } in
    answer_too laws F G answer (record { at = alike })
