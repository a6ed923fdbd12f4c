use Rattle.slot_evidence.proofs.Read.{origin_facts}
use Rattle.slot_evidence.proofs.reading.read_sheet.Goals as goal

pub returns-clause-some : goal.returns-clause-some
returns-clause-some g c = origin_facts (g.E.Elements.list c.args.e) c.in_ok-lead.lead c.sheet_at.result c.in_ok-lead.ensures.least c.sheet_at.ensures
