use Rattle.slot_evidence.proofs.Ends.{IsEnds-read}
use Rattle.slot_evidence.proofs.plain.read_sheet.Goals as goal

pub returns-clause-some : goal.returns-clause-some
returns-clause-some c =
    IsEnds-read c.args.e.now c.in_ok-lead.lead c.places_of.result c.in_ok-lead.ensures.least c.places_of.ensures.lawful c.places_of.ensures.seen
