use Rattle.std.proofs.Common.{arith}
use Rattle.casualty_book.proofs.Numbers.{part_fits, sum_fits}
use Rattle.casualty_book.proofs.packing.number_of.Goals as goal

pub overflow_mul-number : goal.overflow_mul-number
overflow_mul-number c = let h = part_fits c.loop-digit.number c.loop-digit.weight c.loop-digit.digit-index 0 c.from.result c.args.digits.now c.loop-digit-test.true c.from.ensures c.loop-digit.invariant c.requires.long c.requires.digits in omega (arith, h)

pub overflow_add-number-in-loop-digit : goal.overflow_add-number-in-loop-digit
overflow_add-number-in-loop-digit c = let h = sum_fits c.loop-digit.number c.loop-digit.weight c.loop-digit.digit-index 0 c.from.result c.args.digits.now c.loop-digit-test.true c.from.ensures c.loop-digit.invariant c.requires.long c.requires.digits in omega (arith, h)
