use Rattle.sentence_frame.proofs.Sentences.{texts_sound}
use Rattle.sentence_frame.proofs.laws.what_is_read_is_the_sentence.Goals as goal

pub returns : goal.returns
returns c form bytes texts = texts_sound form bytes texts
