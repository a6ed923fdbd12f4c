use Rattle.std.proofs.Common.{true, false, sym, ◌∙◌}
use Rattle.sentence_frame.specs.Shapes as shape
use Rattle.sentence_frame.specs.Shapes.{number_of}
use Rattle.sentence_frame.specs.inside.Fields.{first_of}
use Rattle.dsc_sentences.proofs.Taken.{taken, taken_not, is_code}
use Rattle.dsc_sentences.proofs.taking.take_code.Goals as goal

pub returns-then-contains-clause-value : goal.returns-then-contains-clause-value
returns-then-contains-clause-value c =
    let t = first_of c.args.fields.now in
    let n = c.in-Some.number in
    let h = c.in-Some.ensures in
    let accepted = is_code c.args.numbers.now t n true h.0 h.1 (sym c.contains.ensures.value ∙ c.if-contains.true) in
    taken c.args.k (shape.code c.args.numbers.now) number_of t n accepted h.1

pub returns-else-contains-clause-value : goal.returns-else-contains-clause-value
returns-else-contains-clause-value c =
    let t = first_of c.args.fields.now in
    let n = c.in-Some.number in
    let h = c.in-Some.ensures in
    let refused = is_code c.args.numbers.now t n false h.0 h.1 (sym c.contains.ensures.value ∙ c.if-contains.false) in
    taken_not c.args.k (shape.code c.args.numbers.now) number_of t refused
