use Rattle.slot_join.proofs.SomeAnswer.{answer_there}
use Rattle.slot_join.proofs.laws.no_answer_is_lacking.Goals as goal

pub returns : goal.returns
returns c = λ F small none.
    answer_there (record {
      formats = λ f is. (c.formats_begin_calls.ensures f).0 is;
      calls = λ call is. (c.lists_are_short.ensures call is).1;
      sets = λ x e is. (c.lists_are_short-2.ensures x e is).1;
    }) F small (λ found. none found.0 found.1)
