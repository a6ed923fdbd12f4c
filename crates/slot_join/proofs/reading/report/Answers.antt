use Rattle.slot_evidence.specs.declared.places.Seen.TheVariants as seen
use Rattle.slot_join.proofs.reading.report.Goals as goal

pub returns-in-One : goal.returns-in-One
returns-in-One c = λ F ends. record {
  head = seen.One c.in-One.format;
  seen = c.in-One.ensures.together F ends;
  answers = c.behind_format.ensures F ends (c.in-One.ensures.together F ends);
}
