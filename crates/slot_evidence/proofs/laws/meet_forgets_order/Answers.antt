use Rattle.std.proofs.Math.Bool.{or_assoc, or_comm, or_self}
use Rattle.slot_evidence.specs.Facts.{union}
use Rattle.slot_evidence.specs.Sheet.{facts_in}
use Rattle.slot_evidence.proofs.Ends.{own_ends, same_sheet}
use Rattle.slot_evidence.proofs.laws.meet_forgets_order.Goals as goal

pub returns-clause-order : goal.returns-clause-order
returns-clause-order c = λ a b ab ba sa sb p q.
    let f = own_ends a sa in
    let g = own_ends b sb in
    same_sheet _ _ ab ba (λ k v. or_comm (facts_in a k v) (facts_in b k v)) (p (facts_in a) (facts_in b) f g) (q (facts_in b) (facts_in a) g f)

pub returns-clause-groups : goal.returns-clause-groups
returns-clause-groups c = λ a b c ab bc left right sa sb sc p q r s.
    let f = own_ends a sa in
    let g = own_ends b sb in
    let h = own_ends c sc in
    same_sheet _ _ left right (λ k v. or_assoc (facts_in a k v) (facts_in b k v) (facts_in c k v))
    (q (union (facts_in a) (facts_in b)) (facts_in c) (p (facts_in a) (facts_in b) f g) h)
    (s (facts_in a) (union (facts_in b) (facts_in c)) f (r (facts_in b) (facts_in c) g h))

pub returns-clause-repeats : goal.returns-clause-repeats
returns-clause-repeats c = λ a aa sa p.
    let f = own_ends a sa in
    same_sheet _ _ aa a (λ k v. or_self (facts_in a k v)) (p (facts_in a) (facts_in a) f f) f
