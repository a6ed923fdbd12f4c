use Rattle.call_texts.proofs.BareTexts.{expansion_refused}
use Rattle.call_texts.proofs.laws.expansions_are_refused_at_their_blank.Goals as goal

pub returns : goal.returns
returns c = expansion_refused
