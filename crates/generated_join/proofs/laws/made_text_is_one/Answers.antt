use Rattle.generated_join.proofs.OneSummary.{same_made}
use Rattle.generated_join.proofs.laws.made_text_is_one.Goals as goal

pub returns : goal.returns
returns c = same_made c.one_answer.ensures
