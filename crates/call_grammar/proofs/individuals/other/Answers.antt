use Rattle.symbol_reader.proofs.Laws.{then_good, only_good}
use Rattle.symbol_reader.proofs.Steps.{next, stop, fail, only_read}
use Rattle.call_grammar.proofs.CodedParts.{endings_good, second_good}
use Rattle.call_grammar.proofs.MessageParts.{message_good}
use Rattle.call_grammar.proofs.individuals.other.Goals as goal

pub returns-in_err-second : goal.returns-in_err-second
returns-in_err-second c = fail c.from_residual.ensures.1
    (stop second_good (λ _ _ _. then_good _ _ message_good (λ _ _ _. then_good _ _ endings_good (λ _ _ _. only_good _))) c.in_err-second.ensures)

pub returns-in_err-message : goal.returns-in_err-message
returns-in_err-message c = fail c.from_residual-in_err-message.ensures.1
    (next second_good c.in_ok-second.ensures
    (stop message_good (λ _ _ _. then_good _ _ endings_good (λ _ _ _. only_good _)) c.in_err-message.ensures))

pub returns-in_err-end : goal.returns-in_err-end
returns-in_err-end c = fail c.from_residual-in_err-end.ensures.1
    (next second_good c.in_ok-second.ensures
    (next message_good c.in_ok-message.ensures
    (stop endings_good (λ _ _ _. only_good _) c.in_err-end.ensures)))

pub returns : goal.returns
returns c =
    (next second_good c.in_ok-second.ensures
    (next message_good c.in_ok-message.ensures
    (next endings_good c.in_ok-end.ensures
    (only_read _ _))))
