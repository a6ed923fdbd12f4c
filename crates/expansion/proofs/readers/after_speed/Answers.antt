use Rattle.symbol_reader.specs.declared.letters.Letter.TheVariants.{Exactly}
use Rattle.std.proofs.Common.{arith}
use Rattle.std.proofs.lemmas.Bool.{eq-eqb}
use Rattle.symbol_reader.proofs.Laws.{only_good}
use Rattle.symbol_reader.proofs.Steps.{letter_good, next, stop, fail, chosen, only_read}
use Rattle.expansion.specs.declared.specifiers.TheConstants.{COURSE}
use Rattle.expansion.specs.inside.Grammar.{sets_of}
use Rattle.expansion.proofs.DigitParts.{four_good}
use Rattle.expansion.proofs.SetGoods.{last_end_good}
use Rattle.expansion.proofs.readers.after_speed.Goals as goal

pub returns-in_err-course : goal.returns-in_err-course
returns-in_err-course c = fail c.from_residual.ensures.1
    (chosen (eq-eqb c.args.next COURSE c.if-next-ne-COURSE.false)
    (stop (four_good 35 (omega arith)) (λ x _ _. last_end_good c.args.end (sets_of c.args.enhanced c.args.speed x)) c.in_err-course.ensures))

pub returns-in_err-symbol : goal.returns-in_err-symbol
returns-in_err-symbol c = fail c.from_residual-in_err-symbol.ensures.1
    (chosen (eq-eqb c.args.next COURSE c.if-next-ne-COURSE.false)
    (next (four_good 35 (omega arith)) c.in_ok-course.ensures
    (stop (letter_good (Exactly c.args.end)) (λ _ _ _. only_good (sets_of c.args.enhanced c.args.speed c.in_ok-course.course)) c.in_err-symbol.ensures.reads)))

pub returns : goal.returns
returns c =
    chosen (eq-eqb c.args.next COURSE c.if-next-ne-COURSE.false)
    (next (four_good 35 (omega arith)) c.in_ok-course.ensures
    (next (letter_good (Exactly c.args.end)) c.in_ok-symbol.ensures.reads
    (only_read (sets_of c.args.enhanced c.args.speed c.in_ok-course.course) _)))
