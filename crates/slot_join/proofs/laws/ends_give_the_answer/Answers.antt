use Rattle.slot_join.proofs.AnswerOfEnds.{Laws, answers_of_ends}
use Rattle.slot_join.proofs.laws.ends_give_the_answer.Goals as goal

pub returns : goal.returns
returns c = λ F G sheet answer ends.
    let kept = c.ends_are_kept.ensures in
    let laws : Laws = record { kept = kept.kept; itself = kept.itself; unions = kept.unions; sheet = kept.sheet } in
    answers_of_ends laws F G sheet answer ends
