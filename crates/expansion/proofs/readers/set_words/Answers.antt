use Rattle.symbol_reader.specs.declared.letters.Letter.TheVariants.{OneOf}
use Rattle.symbol_reader.proofs.Steps.{letter_good, next, stop, fail}
use Rattle.expansion.specs.declared.specifiers.TheConstants.{COURSE, ENHANCED_POSITION, SPEED}
use Rattle.expansion.proofs.SetGoods.{after_first_good}
use Rattle.expansion.proofs.readers.set_words.Goals as goal

pub returns-in_err-first : goal.returns-in_err-first
returns-in_err-first c = fail c.from_residual.ensures.1
    (stop (letter_good (OneOf ENHANCED_POSITION SPEED COURSE)) (λ x _ _. after_first_good c.args.end x) c.in_err-first.ensures.reads)

pub returns : goal.returns
returns c = next (letter_good (OneOf ENHANCED_POSITION SPEED COURSE)) c.in_ok-first.ensures.reads c.after_first.ensures
