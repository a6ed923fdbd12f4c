use Rattle.std.proofs.lemmas.Bool.{ne_eqb, eq-eqb}
use Rattle.symbol_reader.specs.declared.letters.Letter.TheVariants.{OneOf}
use Rattle.symbol_reader.proofs.Steps.{letter_good, next, stop, fail, chosen, not_chosen}
use Rattle.expansion.specs.declared.specifiers.TheConstants.{COURSE, ENHANCED_POSITION, SPEED}
use Rattle.expansion.proofs.DigitParts.{eight_good}
use Rattle.expansion.proofs.SetGoods.{after_enhanced_good, speed_and_rest_good}
use Rattle.expansion.proofs.readers.after_first.Goals as goal

pub returns-then-first-ne-ENHANCED_POSITION : goal.returns-then-first-ne-ENHANCED_POSITION
returns-then-first-ne-ENHANCED_POSITION c =
    not_chosen (ne_eqb c.args.first ENHANCED_POSITION c.if-first-ne-ENHANCED_POSITION.true) (rw c.left_out.ensures at c.after_enhanced.ensures)

pub returns-in_err-enhanced : goal.returns-in_err-enhanced
returns-in_err-enhanced c = fail c.from_residual.ensures.1
    (chosen (eq-eqb c.args.first ENHANCED_POSITION c.if-first-ne-ENHANCED_POSITION.false)
    (stop eight_good (λ x _ _. speed_and_rest_good c.args.end x) c.in_err-enhanced.ensures))

pub returns-in_err-next : goal.returns-in_err-next
returns-in_err-next c = fail c.from_residual-in_err-next.ensures.1
    (chosen (eq-eqb c.args.first ENHANCED_POSITION c.if-first-ne-ENHANCED_POSITION.false)
    (next eight_good c.in_ok-enhanced.ensures
    (stop (letter_good (OneOf SPEED COURSE c.args.end)) (λ x _ _. after_enhanced_good c.args.end c.in_ok-enhanced.enhanced x) c.in_err-next.ensures.reads)))

pub returns : goal.returns
returns c =
    chosen (eq-eqb c.args.first ENHANCED_POSITION c.if-first-ne-ENHANCED_POSITION.false)
    (next eight_good c.in_ok-enhanced.ensures
    (next (letter_good (OneOf SPEED COURSE c.args.end)) c.in_ok-next.ensures.reads
    c.after_enhanced-2.ensures))
