use Rattle.generated_join.proofs.JoinTexts.{joined_so}
use Rattle.generated_join.proofs.laws.joins_end_so.Goals as goal

pub returns : goal.returns
returns c = joined_so
