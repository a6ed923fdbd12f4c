use Rattle.sentence_files.proofs.Determined.{telling_determined}
use Rattle.sentence_files.proofs.laws.lines_determine_output.Goals as goal

pub returns : goal.returns
returns c = telling_determined c.one_sentence_line.ensures
