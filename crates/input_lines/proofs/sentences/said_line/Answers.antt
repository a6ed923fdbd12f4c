use Rattle.std.proofs.lemmas.Result.{err_from_is_err_and}
use Rattle.input_lines.proofs.Choices.{said_column}
use Rattle.input_lines.proofs.sentences.said_line.Goals as goal

pub returns-in_err-call_line : goal.returns-in_err-call_line
returns-in_err-call_line c =
    let p = err_from_is_err_and c.from_residual.result c.from_residual.ensures.1 in
    rw (p.1, p.2) (said_column _ _ c.requires c.in_err-call_line.ensures)
