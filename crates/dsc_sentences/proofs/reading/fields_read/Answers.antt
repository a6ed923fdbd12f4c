use Rattle.std.proofs.Common.{sym, ◌∙◌}
use Rattle.std.proofs.lemmas.Result.{err_from_is_err_and}
use Rattle.dsc_sentences.proofs.DscFieldLaws.{head_is}
use Rattle.dsc_sentences.proofs.DscAnswers.{read_opened, refused_first}
use Rattle.dsc_sentences.proofs.reading.fields_read.Goals as goal

pub fields_of-requires : goal.fields_of-requires
fields_of-requires c = head_is

pub returns : goal.returns
returns c = read_opened c.args.bytes.now c.in_ok-fields.fields c.read_fields.result (sym c.fields_of.ensures ∙ c.in_ok-fields.was) c.read_fields.ensures

pub returns-in_err-fields : goal.returns-in_err-fields
returns-in_err-fields c = let p = err_from_is_err_and c.from_residual.result c.from_residual.ensures.1 in rw (p.1, p.2) (refused_first c.args.bytes.now c.in_err-fields.field-0.0 (sym c.fields_of.ensures ∙ c.in_err-fields.was))
