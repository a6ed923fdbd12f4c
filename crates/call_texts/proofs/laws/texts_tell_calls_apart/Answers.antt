use Rattle.call_texts.proofs.CallLaws.{one_call}
use Rattle.call_texts.proofs.laws.texts_tell_calls_apart.Goals as goal

pub returns : goal.returns
returns c = one_call
