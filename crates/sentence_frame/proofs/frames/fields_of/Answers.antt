use Rattle.std.proofs.Common.{◌∙◌, sym}
use Rattle.sentence_frame.proofs.Cuts.{opened_count}
use Rattle.sentence_frame.proofs.frames.fields_of.Goals as goal

pub returns-else-contains : goal.returns-else-contains
returns-else-contains c =
    sym (opened_count c.args.head.now c.args.counts.now c.args.bytes.now c.in-Ok.fields.now c.text_count-count.result c.in-Ok.ensures.ok c.text_count-count.ensures (sym c.contains.ensures.value ∙ c.if-contains.false))
