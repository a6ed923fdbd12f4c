use Rattle.std.proofs.Common.{◌≤◌, arith}
use Rattle.sentence_frame.specs.Shapes as shape
use Rattle.sentence_frame.specs.Shapes.{number_of}
use Rattle.sentence_frame.specs.inside.Fields.{first_of}
use Rattle.dsc_sentences.proofs.Taken.{taken_perhaps, is_number}
use Rattle.dsc_sentences.proofs.taking.take_perhaps_two.Goals as goal

pub returns-in-Some-clause-value : goal.returns-in-Some-clause-value
returns-in-Some-clause-value c =
    let t = first_of c.args.fields.now in
    let h = c.in-Some.ensures in
    let low : number_of t ≤ 99 = omega (arith, h.1, h.2) in
    taken_perhaps c.args.k 1 (shape.number 2 99) number_of t c.in-Some.number h.0 (is_number 2 99 t h.0 low) h.1
