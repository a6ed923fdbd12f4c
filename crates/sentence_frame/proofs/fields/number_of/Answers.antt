use Rattle.std.proofs.Common.{length, arith}
use Rattle.sentence_frame.proofs.Numbers.{seven_digits}
use Rattle.sentence_frame.proofs.fields.number_of.Goals as goal

pub overflow_mul-number : goal.overflow_mul-number
overflow_mul-number c =
    let small = seven_digits c.loop-byte.number c.loop-byte.byte-index (length c.args.text.now) c.loop-byte.invariant.1 (omega arith) c.requires.short in
    omega (arith, small)

pub overflow_add-number : goal.overflow_add-number
overflow_add-number c =
    let small = seven_digits c.loop-byte.number c.loop-byte.byte-index (length c.args.text.now) c.loop-byte.invariant.1 (omega arith) c.requires.short in
    omega (arith, small)
