use Rattle.sentence_frame.proofs.Sentences.{texts_back}
use Rattle.sentence_frame.proofs.laws.sentences_are_read.Goals as goal

pub returns : goal.returns
returns c form texts = texts_back form texts
