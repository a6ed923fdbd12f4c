use Rattle.generated_join.specs.Generator.{generated_texts}
use Rattle.generated_join.proofs.NotLacking.{made_there}
use Rattle.generated_join.proofs.laws.made_text_is_there.Goals as goal

pub returns : goal.returns
returns c = λ n few. made_there c.no_answer_is_lacking.ensures n (generated_texts n) (c.generated_lines_are_read.ensures n few)
