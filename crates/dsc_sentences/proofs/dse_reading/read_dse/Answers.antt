use Rattle.std.proofs.Common.{Ok, Err}
use Rattle.std.proofs.lemmas.Result.{err_from_is_err_and}
use Rattle.dsc_sentences.specs.inside.DseReading.{fields_of}
use Rattle.dsc_sentences.proofs.DseAccepted.{answers_read}
use Rattle.dsc_sentences.proofs.dse_reading.read_dse.Goals as goal

pub returns : goal.returns
returns c = rw c.sentence_of.ensures (answers_read c.args.bytes.now (Ok (fields_of c.in_ok-parts.parts)) c.in_ok-parts.ensures)

pub returns-in_err-parts : goal.returns-in_err-parts
returns-in_err-parts c = let p = err_from_is_err_and c.from_residual.result c.from_residual.ensures.1 in rw (p.1, p.2) (answers_read c.args.bytes.now (Err c.in_err-parts.field-0.0) c.in_err-parts.ensures)
