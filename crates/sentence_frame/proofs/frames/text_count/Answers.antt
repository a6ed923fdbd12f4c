use Rattle.sentence_frame.proofs.Cuts.{texts_more}
use Rattle.sentence_frame.proofs.frames.text_count.Goals as goal

pub returns-in-Some : goal.returns-in-Some
returns-in-Some c = texts_more c.args.fields.now c.in-Some.field-0-0.now c.in-Some.behind.now c.commas.result c.in-Some.ensures.cases.0 c.commas.ensures.count
