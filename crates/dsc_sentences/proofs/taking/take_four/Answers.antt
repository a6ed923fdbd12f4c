use Rattle.std.proofs.Common.{arith}
use Rattle.sentence_frame.specs.inside.Fields.{first_of}
use Rattle.dsc_sentences.proofs.Taken.{four_value}
use Rattle.dsc_sentences.proofs.taking.take_four.Goals as goal

pub overflow_mul-result : goal.overflow_mul-result
overflow_mul-result c = let h = four_value (first_of c.args.fields.now) c.in_ok-a.field-0 c.in_ok-a.ensures.0 c.in_ok-a.ensures.1 in omega (arith, h)

pub overflow_add-result : goal.overflow_add-result
overflow_add-result c = let h = four_value (first_of c.args.fields.now) c.in_ok-a.field-0 c.in_ok-a.ensures.0 c.in_ok-a.ensures.1 in omega (arith, h)

pub overflow_add-result-2 : goal.overflow_add-result-2
overflow_add-result-2 c = let h = four_value (first_of c.args.fields.now) c.in_ok-a.field-0 c.in_ok-a.ensures.0 c.in_ok-a.ensures.1 in omega (arith, h)

pub overflow_add-result-3 : goal.overflow_add-result-3
overflow_add-result-3 c = let h = four_value (first_of c.args.fields.now) c.in_ok-a.field-0 c.in_ok-a.ensures.0 c.in_ok-a.ensures.1 in omega (arith, h)

pub returns : goal.returns
returns c =
    let h = four_value (first_of c.args.fields.now) c.in_ok-a.field-0 c.in_ok-a.ensures.0 c.in_ok-a.ensures.1 in
    (c.in_ok-a.ensures.0, omega (arith, h), omega (arith, h), c.in_ok-a.ensures.2)
