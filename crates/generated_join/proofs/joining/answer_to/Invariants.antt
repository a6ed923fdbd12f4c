use Rattle.slot_evidence.specs.Facts.{facts_of_all}
use Rattle.slot_evidence.specs.Sheet.{IsEnds}
use Rattle.generated_join.proofs.Groups.{first_heard}
use Rattle.generated_join.proofs.joining.answer_to.Given as goal

abbrev pub invariant-loop-receiver : goal.invariant-loop-receiver
invariant-loop-receiver l = IsEnds (facts_of_all (first_heard l.group l.receiver)) l.sheet
