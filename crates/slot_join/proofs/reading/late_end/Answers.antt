use Rattle.slot_join.specs.Shown.{late_of}
use Rattle.slot_join.proofs.LateEnds.{no_end}
use Rattle.slot_join.proofs.reading.late_end.Goals as goal

pub returns-in_default : goal.returns-in_default
returns-in_default c = record {
  at_end = tt;
  symbol = tt;
  copies = tt;
  none = λ _ F ends at end one. no_end (late_of F c.args.n) c.later_ends.result end (c.later_ends.ensures.together F ends) c.in_default.not-One one;
}
