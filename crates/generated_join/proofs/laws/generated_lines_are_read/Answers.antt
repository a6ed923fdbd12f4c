use Rattle.generated_join.proofs.LineTexts.{lines_are}
use Rattle.generated_join.proofs.laws.generated_lines_are_read.Goals as goal

pub returns : goal.returns
returns c = lines_are
