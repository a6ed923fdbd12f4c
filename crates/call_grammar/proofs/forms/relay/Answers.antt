use Rattle.symbol_reader.proofs.Laws.{then_good, only_good}
use Rattle.symbol_reader.proofs.Steps.{next, stop, fail, only_read}
use Rattle.call_grammar.proofs.CasualtyParts.{casualty_good}
use Rattle.call_grammar.proofs.CodedParts.{endings_good}
use Rattle.call_grammar.proofs.forms.relay.Goals as goal

pub returns-in_err-casualty : goal.returns-in_err-casualty
returns-in_err-casualty c = fail c.from_residual.ensures.1
    (stop casualty_good (λ _ _ _. then_good _ _ endings_good (λ _ _ _. only_good _)) c.in_err-casualty.ensures)

pub returns-in_err-end : goal.returns-in_err-end
returns-in_err-end c = fail c.from_residual-in_err-end.ensures.1
    (next casualty_good c.in_ok-casualty.ensures
    (stop endings_good (λ _ _ _. only_good _) c.in_err-end.ensures))

pub returns : goal.returns
returns c =
    (next casualty_good c.in_ok-casualty.ensures
    (next endings_good c.in_ok-end.ensures
    (rw c.relay_of.ensures (only_read _ _))))
