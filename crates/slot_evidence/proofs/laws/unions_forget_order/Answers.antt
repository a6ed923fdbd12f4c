use Rattle.std.proofs.Math.Bool.{or_assoc, or_comm, or_self}
use Rattle.slot_evidence.proofs.Ends.{same_sheet}
use Rattle.slot_evidence.proofs.laws.unions_forget_order.Goals as goal

pub returns-clause-order : goal.returns-clause-order
returns-clause-order c = λ F G s t. same_sheet _ _ s t (λ p v. or_comm (F p v) (G p v))

pub returns-clause-groups : goal.returns-clause-groups
returns-clause-groups c = λ F G H s t. same_sheet _ _ s t (λ p v. or_assoc (F p v) (G p v) (H p v))

pub returns-clause-repeats : goal.returns-clause-repeats
returns-clause-repeats c = λ F s t. same_sheet _ _ s t (λ p v. or_self (F p v))
