use Rattle.std.proofs.Common.{sym, ◌∙◌}
use Rattle.dsc_sentences.proofs.DscAnswers as dsc
use Rattle.dsc_sentences.proofs.DseAccepted as dse
use Rattle.dsc_sentences.proofs.laws.texts_tell_sentences_apart.Goals as goal

pub returns : goal.returns
returns c = record {
  dsc = λ s t bytes hs ht e f. dsc.one_sentence s t hs ht (sym e ∙ f);
  dse = λ s t bytes hs ht e f. dse.one_sentence s t hs ht (sym e ∙ f);
}
