use Rattle.slot_evidence.proofs.Sets.{none_or, or_none-seen, span_or}
use Rattle.slot_evidence.proofs.places.Seen.meet.Goals as goal

pub returns-in_default-clause-union : goal.returns-in_default-clause-union
returns-in_default-clause-union c = λ S T s t. none_or S T c.args.other (c.in_default.ensures.ends S s) t

pub returns-in_default-span-clause-union : goal.returns-in_default-span-clause-union
returns-in_default-span-clause-union c =
    λ S T s t. or_none-seen S T c.args.self s (c.in_default-span.ensures.ends T t)

pub returns-clause-union : goal.returns-clause-union
returns-clause-union c =
    λ S T s t.
    c.of_span.ensures.ends _
    (span_or S T _ _ _ _ _ _ (c.in-Some.ensures.ends S s) (c.in-Some-span.ensures.ends T t) c.min.ensures c.max.ensures)
