use Rattle.evidence_board.proofs.Core.{is_least, is_past_greatest, ends_alike}
use Rattle.evidence_board.proofs.Boards.{kept_words}
use Rattle.evidence_board.proofs.laws.one_core.Goals as goal

pub returns-clause-least : goal.returns-clause-least
returns-clause-least c = is_least

pub returns-clause-greatest : goal.returns-clause-greatest
returns-clause-greatest c = is_past_greatest

pub returns-clause-alike : goal.returns-clause-alike
returns-clause-alike c = ends_alike

pub returns-clause-boards : goal.returns-clause-boards
returns-clause-boards c = kept_words
