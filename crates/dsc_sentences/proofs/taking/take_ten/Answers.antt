use Rattle.sentence_frame.specs.Shapes as shape
use Rattle.sentence_frame.specs.Shapes.{digits_of}
use Rattle.sentence_frame.specs.inside.Fields.{first_of}
use Rattle.dsc_sentences.proofs.Taken.{taken, is_ten}
use Rattle.dsc_sentences.proofs.taking.take_ten.Goals as goal

pub returns-in-Some-clause-value : goal.returns-in-Some-clause-value
returns-in-Some-clause-value c =
    let t = first_of c.args.fields.now in
    let h = c.in-Some.ensures in
    taken c.args.k (shape.digits 10) digits_of t c.in-Some.values (is_ten t h.0) h.1
