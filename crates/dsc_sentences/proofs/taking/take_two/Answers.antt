use Rattle.std.proofs.Common.{arith}
use Rattle.sentence_frame.specs.inside.Fields.{first_of}
use Rattle.dsc_sentences.proofs.Taken.{two_value}
use Rattle.dsc_sentences.proofs.taking.take_two.Goals as goal

pub overflow_mul-result : goal.overflow_mul-result
overflow_mul-result c = let h = two_value (first_of c.args.fields.now) c.in_ok-tens.field-0 c.in_ok-tens.ensures.0 c.in_ok-tens.ensures.1 in omega (arith, h)

pub overflow_add-result : goal.overflow_add-result
overflow_add-result c = let h = two_value (first_of c.args.fields.now) c.in_ok-tens.field-0 c.in_ok-tens.ensures.0 c.in_ok-tens.ensures.1 in omega (arith, h)

pub returns : goal.returns
returns c =
    let h = two_value (first_of c.args.fields.now) c.in_ok-tens.field-0 c.in_ok-tens.ensures.0 c.in_ok-tens.ensures.1 in
    (c.in_ok-tens.ensures.0, h.0, omega (arith, h), c.in_ok-tens.ensures.2)
