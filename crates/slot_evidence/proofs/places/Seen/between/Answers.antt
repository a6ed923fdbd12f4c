use Rattle.std.proofs.Common.{◌∙◌, sym}
use Rattle.slot_evidence.proofs.Kept.{between_span}
use Rattle.slot_evidence.proofs.places.Seen.between.Goals as goal

pub returns-clause-seen : goal.returns-clause-seen
returns-clause-seen c = c.of_span.ensures.value ∙ sym (between_span c.args.least c.args.past c.if-past-eq0.false)
