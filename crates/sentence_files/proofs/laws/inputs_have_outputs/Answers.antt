use Rattle.line_engine.proofs.PublicLaws.{has_outputs}
use Rattle.sentence_files.specs.Telling.{sentences_meaning}
use Rattle.sentence_files.proofs.Complete.{sentences_complete}
use Rattle.sentence_files.proofs.laws.inputs_have_outputs.Goals as goal

pub returns : goal.returns
returns c = has_outputs sentences_meaning sentences_complete
