use Rattle.std.proofs.Common.{◌+◌, arith}
use Rattle.phasing.proofs.BitTests.{not_marks, same_marks_from}
use Rattle.phasing.proofs.Filled.{is_y, is_b_or_lost}
use Rattle.phasing.proofs.marking.filled_planes.Goals as goal

pub returns : goal.returns
returns c = λ base e from planes.
    record {
      ys = same_marks_from c.args.planes.y base _ _ (λ i. is_y e (base + i) (omega arith)) planes.ys;
      bs = same_marks_from _ base _ _ (λ i. is_b_or_lost e (base + i) (omega arith)) (not_marks c.args.planes.y base _ planes.ys);
    }
