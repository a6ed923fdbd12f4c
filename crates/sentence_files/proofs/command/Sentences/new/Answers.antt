use Rattle.sentence_files.proofs.Told.{none_told}
use Rattle.sentence_files.proofs.command.Sentences.new.Goals as goal

pub returns : goal.returns
returns c = none_told
