use Rattle.std.proofs.Common.{refl}
use Rattle.sentence_frame.specs.Refusals.{texts_of}
use Rattle.std.proofs.lemmas.Result.{err_from_is_err_and}
use Rattle.dsc_sentences.specs.Dse.{dse}
use Rattle.dsc_sentences.proofs.Told.{told_dse, told_refused}
use Rattle.dsc_sentences.proofs.hearing.heard_as_dse.Goals as goal

pub returns : goal.returns
returns c = record { verdict = told_dse c.args.bytes.now _ c.in_ok-_sentence.ensures; found = refl }

pub returns-in_err-_sentence : goal.returns-in_err-_sentence
returns-in_err-_sentence c = let p = err_from_is_err_and c.from_residual.result c.from_residual.ensures.1 in rw (p.1, p.2) (record {
  verdict = told_refused (texts_of dse c.args.bytes.now) c.in_err-_sentence.field-0.0 ((c.in_err-_sentence.ensures.refused c.in_err-_sentence.field-0.0).0 refl);
  found = tt;
})
