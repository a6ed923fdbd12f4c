use Rattle.symbol_reader.specs.declared.letters.Letter.TheVariants.{Either}
use Rattle.std.proofs.Common.{arith}
use Rattle.std.proofs.lemmas.Bool.{ne_eqb, eq-eqb}
use Rattle.symbol_reader.proofs.Steps.{letter_good, next, stop, fail, chosen, not_chosen}
use Rattle.expansion.specs.declared.specifiers.TheConstants.{COURSE, SPEED}
use Rattle.expansion.proofs.DigitParts.{four_good}
use Rattle.expansion.proofs.SetGoods.{after_speed_good, course_and_end_good}
use Rattle.expansion.proofs.readers.after_enhanced.Goals as goal

pub returns-then-next-ne-SPEED : goal.returns-then-next-ne-SPEED
returns-then-next-ne-SPEED c =
    not_chosen (ne_eqb c.args.next SPEED c.if-next-ne-SPEED.true) (rw c.left_out.ensures at c.after_speed.ensures)

pub returns-in_err-speed : goal.returns-in_err-speed
returns-in_err-speed c = fail c.from_residual.ensures.1
    (chosen (eq-eqb c.args.next SPEED c.if-next-ne-SPEED.false)
    (stop (four_good 99 (omega arith)) (λ x _ _. course_and_end_good c.args.end c.args.enhanced x) c.in_err-speed.ensures))

pub returns-in_err-later : goal.returns-in_err-later
returns-in_err-later c = fail c.from_residual-in_err-later.ensures.1
    (chosen (eq-eqb c.args.next SPEED c.if-next-ne-SPEED.false)
    (next (four_good 99 (omega arith)) c.in_ok-speed.ensures
    (stop (letter_good (Either COURSE c.args.end)) (λ x _ _. after_speed_good c.args.end c.args.enhanced c.in_ok-speed.speed x) c.in_err-later.ensures.reads)))

pub returns : goal.returns
returns c =
    chosen (eq-eqb c.args.next SPEED c.if-next-ne-SPEED.false)
    (next (four_good 99 (omega arith)) c.in_ok-speed.ensures
    (next (letter_good (Either COURSE c.args.end)) c.in_ok-later.ensures.reads
    c.after_speed-2.ensures))
