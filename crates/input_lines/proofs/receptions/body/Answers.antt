use Rattle.std.proofs.Common.{refl, sym}
use Rattle.std.proofs.lemmas.Bool.{eqb-false}
use Rattle.std.proofs.lemmas.Result.{IfOk-weaker, IfErr-weaker}
use Rattle.input_lines.proofs.Bodies.{all_of_bytes, body_of, blank_missed}
use Rattle.input_lines.specs.ReceiverLine.{signs}
use Rattle.input_lines.proofs.receptions.body.Goals as goal

pub returns-clause-signs : goal.returns-clause-signs
returns-clause-signs c =
    IfOk-weaker c.signs.result _ _ (λ signs is. (all_of_bytes signs.now is.1.1, body_of c.args.bytes.now signs.now is.1.0 is.1.1 is.0)) c.signs.ensures.signs

pub returns-clause-left : goal.returns-clause-left
returns-clause-left c = IfErr-weaker c.signs.result _ _ (λ left h. blank_missed signs c.args.bytes.now left refl (eqb-false _ 0 (sym c.if-is_empty.ensures)) h) c.signs.ensures.left
