use Rattle.std.proofs.Common.{◌+◌, take, drop}
use Rattle.phasing.specs.inside.Places.{is_at}
use Rattle.phasing.proofs.BitTests.{and_marks, same_marks}
use Rattle.phasing.proofs.Words.{is_at_parts}
use Rattle.phasing.proofs.marking.word_marked.Goals as goal

pub returns : goal.returns
returns c = λ base e here next.
    let w = c.args.word.now in
    same_marks _ base _ (is_at e w) (λ p. is_at_parts e w p c.told-word)
    (and_marks c.run_marked.result c.run_marked-2.result base (λ p. is_at e (take 7 (drop 3 w)) (p + 3)) (λ p. is_at e (take 3 w) (p + 0)) (c.run_marked.ensures base e here next) (c.run_marked-2.ensures base e here next))
