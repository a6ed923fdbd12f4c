use Rattle.dsc_sentences.proofs.laws.sentences_are_read_back.Goals as goal

pub returns : goal.returns
returns c = record {
  dsc = λ s bytes answer lawful text reading. reading.only s lawful text;
  dse = λ s bytes answer lawful text reading. reading.only s lawful text;
}
