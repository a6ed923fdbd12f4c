use Rattle.std.proofs.Common.{List, subst, sym}
use Rattle.slot_evidence.specs.declared.places.Seen.{Seen}
use Rattle.slot_evidence.specs.Facts.{no_facts}
use Rattle.slot_evidence.specs.Sheet.{IsEnds}
use Rattle.slot_evidence.proofs.Ends.{IsEnds-blank}
use Rattle.slot_evidence.proofs.sheets.Sheet.empty.Goals as goal

pub returns-clause-ends : goal.returns-clause-ends
returns-clause-ends c = subst (λ (s : List Seen). IsEnds no_facts s) (sym c.from_numbers.ensures) IsEnds-blank
