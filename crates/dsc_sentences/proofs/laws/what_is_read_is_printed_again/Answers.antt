use Rattle.std.proofs.Common.{sym, ◌∙◌}
use Rattle.dsc_sentences.proofs.laws.what_is_read_is_printed_again.Goals as goal

pub returns : goal.returns
returns c = record {
  dsc = λ s bytes printed reading text. text ∙ sym reading.found;
  dse = λ s bytes printed reading text. text ∙ sym reading.found;
}
