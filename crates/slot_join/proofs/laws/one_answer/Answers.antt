use Rattle.slot_join.proofs.OneAnswer.{Laws, same_answer}
use Rattle.slot_join.proofs.laws.one_answer.Goals as goal

pub returns : goal.returns
returns c =
    let laws : Laws = record {
      one = c.one_seen.ensures;
      differ = c.fronts_differ.ensures;
      expansions = c.fronts_differ-2.ensures;
      short = c.lists_are_short.ensures;
    } in
    same_answer laws
