use Rattle.std.proofs.Common.{Ok, Err}
use Rattle.std.proofs.lemmas.Result.{err_from_is_err_and}
use Rattle.dsc_sentences.proofs.HeardLines.{heard_read}
use Rattle.dsc_sentences.proofs.hearing.heard_as_dsc.Goals as goal

pub returns : goal.returns
returns c = heard_read c.args.bytes.now (Ok c.in_ok-fields.fields) c.in_ok-fields.ensures

pub returns-in_err-fields : goal.returns-in_err-fields
returns-in_err-fields c = let p = err_from_is_err_and c.from_residual.result c.from_residual.ensures.1 in rw (p.1, p.2) (heard_read c.args.bytes.now (Err c.in_err-fields.field-0.0) c.in_err-fields.ensures)
