use Rattle.std.proofs.lemmas.Result.{err_from_is_err_and}
use Rattle.input_lines.proofs.Choices.{call_column}
use Rattle.input_lines.proofs.calls.whole_call.Goals as goal

pub returns : goal.returns
returns c = c.in_ok-call.ensures.read.0

pub returns-in_err-call : goal.returns-in_err-call
returns-in_err-call c =
    let p = err_from_is_err_and c.from_residual.result c.from_residual.ensures.1 in
    rw (p.1, p.2) (call_column _ _ c.requires c.in_err-call.ensures.counted c.in_err-call.ensures.read)
