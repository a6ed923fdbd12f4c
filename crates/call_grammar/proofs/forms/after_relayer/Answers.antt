use Rattle.symbol_reader.proofs.Steps.{next, stop, fail}
use Rattle.call_grammar.proofs.CodedParts.{distress_telecommands_good}
use Rattle.call_grammar.proofs.FormParts as forms
use Rattle.call_grammar.proofs.forms.after_relayer.Goals as goal

pub returns-in_err-is_ack : goal.returns-in_err-is_ack
returns-in_err-is_ack c = fail c.from_residual.ensures.1
    (stop (distress_telecommands_good c.args.to.now) (λ _ _ _. (forms.after_distress_telecommand_closes _ _ _).good) c.in_err-is_ack.ensures)

pub returns : goal.returns
returns c =
    (next (distress_telecommands_good c.args.to.now) c.in_ok-is_ack.ensures
    (c.after_distress_telecommand.ensures))
